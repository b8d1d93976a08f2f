use Rattle.edit_spec.proofs.Words.{refl, months, field_text, is_space, is_name_byte, is_new_key_byte, is_name_within, is_new_key}
use Rattle.edit_spec.proofs.ExampleFacts.{no_command_fact, no_other_name_fact}
use Rattle.edit_spec.proofs.examples.joined_text_stays_text.Goals as goal

pub returns : goal.returns
unfolding months field_text is_space is_name_byte is_new_key_byte is_name_within is_new_key
returns c = record { address = refl; no_command = no_command_fact; comment = refl; no_other_name = no_other_name_fact }
