use Rattle.edit_spec.proofs.Words.{refl, arith, months, field_text, is_space, is_name_byte, is_new_key_byte, is_name_within, is_new_key}
use Rattle.edit_spec.proofs.examples.a_macro_gets_a_value.Goals as goal

pub returns : goal.returns
unfolding months field_text is_space is_name_byte is_new_key_byte is_name_within is_new_key
returns c = record { set = refl; piece = refl; old_texts = refl; new_texts = refl; dependents_are = refl; twice = omega arith; month = refl }
