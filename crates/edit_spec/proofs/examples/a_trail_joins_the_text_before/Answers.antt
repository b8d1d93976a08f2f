use Rattle.edit_spec.proofs.Words.{refl, months, field_text, is_space, is_name_byte, is_new_key_byte, is_name_within, is_new_key}
use Rattle.edit_spec.proofs.examples.a_trail_joins_the_text_before.Goals as goal

pub returns : goal.returns
unfolding months field_text is_space is_name_byte is_new_key_byte is_name_within is_new_key
returns c = record { bytes = refl; first = refl; front = refl; second = refl; trails = refl }
