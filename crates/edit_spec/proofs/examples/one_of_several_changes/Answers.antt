use Rattle.edit_spec.proofs.Words.{refl, months, field_text, is_space, is_name_byte, is_new_key_byte, is_name_within, is_new_key}
use Rattle.edit_spec.proofs.examples.one_of_several_changes.Goals as goal

pub returns : goal.returns
unfolding months field_text is_space is_name_byte is_new_key_byte is_name_within is_new_key
returns c = record {
  bytes = refl;
  removed = refl;
  removed_pieces = refl;
  field_dropped = refl;
  field_set = refl;
  field_pieces = refl;
  field_added = refl;
  fields_renamed = refl;
  typed = refl;
  later_key = refl;
  first_key = refl;
  moved = refl;
  no_fourth = refl;
  no_field = refl;
  no_number = refl;
  no_field_number = refl;
  taken = refl;
  taken_by_others = refl;
  parent = (3, 0, refl, refl);
}
