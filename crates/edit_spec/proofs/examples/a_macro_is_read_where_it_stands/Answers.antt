use Rattle.edit_spec.proofs.Words.{refl, arith, months, field_text, is_space, is_name_byte, is_new_key_byte, is_name_within, is_new_key}
use Rattle.edit_spec.proofs.examples.a_macro_is_read_where_it_stands.Goals as goal

pub returns : goal.returns
unfolding months field_text is_space is_name_byte is_new_key_byte is_name_within is_new_key
returns c = record { bytes = refl; first = refl; second = refl; at_head = refl; after = refl; at_end = refl; month = refl; renamed = (omega arith) }
