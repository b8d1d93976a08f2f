use Rattle.edit_spec.proofs.Words.{refl, months, field_text, is_space, is_name_byte, is_new_key_byte, is_name_within, is_new_key}
use Rattle.edit_spec.proofs.examples.a_month_is_overridden.Goals as goal

pub returns : goal.returns
unfolding months field_text is_space is_name_byte is_new_key_byte is_name_within is_new_key
returns c = record { bytes = refl; text = refl; renamed = refl; text_renamed = refl; respelled = refl; pieces = refl; month_alone = refl; to_month = refl }
