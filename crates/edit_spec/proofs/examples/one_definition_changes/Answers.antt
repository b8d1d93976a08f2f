use Rattle.edit_spec.proofs.Words.{refl, arith, false≢true, months, field_text, is_space, is_name_byte, is_new_key_byte, is_name_within, is_new_key}
use Rattle.edit_spec.proofs.examples.one_definition_changes.Goals as goal

pub returns : goal.returns
unfolding months field_text is_space is_name_byte is_new_key_byte is_name_within is_new_key
returns c = record {
  set = refl;
  set_pieces = refl;
  undefined = refl;
  unseen = λ h. false≢true h;
  seen_first = refl;
  seen_last = refl;
  no_third = omega arith;
}
