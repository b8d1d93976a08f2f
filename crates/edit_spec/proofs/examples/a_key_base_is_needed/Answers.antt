use Rattle.edit_spec.proofs.Words.{refl, arith, months, field_text, is_space, is_name_byte, is_new_key_byte, is_name_within, is_new_key}
use Rattle.edit_spec.proofs.examples.a_key_base_is_needed.Goals as goal

pub returns : goal.returns
unfolding months field_text is_space is_name_byte is_new_key_byte is_name_within is_new_key
returns c = record { once = refl; again = refl; before = refl; after = refl; is_there = record { ignores_key = λ r key. refl; is_key = λ r. refl; short = λ r. omega arith } }
