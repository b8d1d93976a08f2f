use Rattle.edit_spec.proofs.Words.{refl, arith, months, field_text, is_space, is_name_byte, is_new_key_byte, is_name_within, is_new_key}
use Rattle.edit_spec.proofs.examples.a_definition_is_added.Goals as goal

pub returns : goal.returns
unfolding months field_text is_space is_name_byte is_new_key_byte is_name_within is_new_key
returns c = record { bytes = refl; added = refl; piece = refl; before_entry = refl; first = refl; no_item = refl; month = refl; defined = omega arith }
