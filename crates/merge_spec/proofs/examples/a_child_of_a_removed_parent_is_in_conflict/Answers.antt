unfoldable use Rattle.bib_spec.specs.Text.{is_space}
unfoldable use Rattle.bib_spec.specs.Texts.{months, field_text}
use Rattle.std.proofs.Common.{refl}
use Rattle.merge_spec.proofs.examples.a_child_of_a_removed_parent_is_in_conflict.Goals as goal

pub returns : goal.returns
unfolding months field_text is_space
returns c = record { merge = record { merge = refl; bytes = refl }; there = refl; here = refl; lost = refl }
