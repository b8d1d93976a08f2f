use Rattle.edit_spec.proofs.Words.{refl, arith, months, field_text, is_space, is_name_byte, is_new_key_byte, is_name_within, is_new_key}
use Rattle.edit_spec.proofs.examples.entries_are_added_and_moved.Goals as goal

pub returns : goal.returns
unfolding months field_text is_space is_name_byte is_new_key_byte is_name_within is_new_key
returns c = record { bytes = refl; added = refl; moved = refl; moved_pieces = refl; too_high = (omega arith); respelled = refl; taken = refl; no_key = refl }
