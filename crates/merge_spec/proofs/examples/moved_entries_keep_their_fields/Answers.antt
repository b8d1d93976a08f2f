unfoldable use Rattle.bib_spec.specs.Text.{is_space}
unfoldable use Rattle.bib_spec.specs.Texts.{months, field_text}
use Rattle.std.proofs.Common.{refl}
use Rattle.merge_spec.proofs.examples.moved_entries_keep_their_fields.Goals as goal

pub returns : goal.returns
unfolding months field_text is_space
returns c = record { merge = refl; bytes = refl }
