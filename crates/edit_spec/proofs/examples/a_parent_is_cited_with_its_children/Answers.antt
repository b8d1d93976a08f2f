use Rattle.edit_spec.proofs.Words.{refl, months, field_text, is_space, is_name_byte, is_new_key_byte, is_name_within, is_new_key}
use Rattle.edit_spec.proofs.examples.a_parent_is_cited_with_its_children.Goals as goal

pub returns : goal.returns
unfolding months field_text is_space is_name_byte is_new_key_byte is_name_within is_new_key
returns c = record { with_parent = refl; without_parent = refl; unknown_keys = refl; fields = refl; removed = (0, 3, refl, refl) }
