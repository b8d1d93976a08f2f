unfoldable use Rattle.bib_spec.specs.Text.{is_space}
unfoldable use Rattle.bib_spec.specs.Texts.{months, field_text}
use Rattle.std.proofs.Common.{refl}
use Rattle.merge_spec.proofs.examples.added_entries_are_there_once.Goals as goal

pub returns-clause-added : goal.returns-clause-added
unfolding months field_text is_space
returns-clause-added c = record { merge = refl; bytes = refl }

pub returns-clause-same : goal.returns-clause-same
unfolding months field_text is_space
returns-clause-same c = record { merge = refl; bytes = refl }

pub returns-clause-different : goal.returns-clause-different
unfolding months field_text is_space
returns-clause-different c = record { conflict = record { merge = refl; bytes = refl }; twice = refl }
