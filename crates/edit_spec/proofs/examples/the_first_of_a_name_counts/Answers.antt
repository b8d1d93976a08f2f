use Rattle.edit_spec.proofs.Words.{refl, arith, months, field_text, is_space, is_name_byte, is_new_key_byte, is_name_within, is_new_key}
use Rattle.std.proofs.Common.{inl}
use Rattle.edit_spec.proofs.examples.the_first_of_a_name_counts.Goals as goal

pub returns : goal.returns
unfolding months field_text is_space is_name_byte is_new_key_byte is_name_within is_new_key
returns c = record { bytes = refl; effective = refl; first_key = refl; second_key = refl; set = inl (omega arith) }
