use Rattle.edit_spec.proofs.Words.{refl, months, field_text, is_space, is_name_byte, is_new_key_byte, is_name_within, is_new_key}
use Rattle.edit_spec.proofs.ExampleFacts.{no_value_fact}
use Rattle.edit_spec.proofs.examples.a_field_is_set_and_dropped.Goals as goal

pub returns : goal.returns
unfolding months field_text is_space is_name_byte is_new_key_byte is_name_within is_new_key
returns c = record { bytes = refl; set = refl; set_pieces = refl; replaced = refl; dropped = refl; missing = refl; no_name = refl; no_value = no_value_fact; close_bytes = refl; close_in_key = refl; close_apart = refl }
