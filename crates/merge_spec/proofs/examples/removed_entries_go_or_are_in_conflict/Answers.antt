unfoldable use Rattle.bib_spec.specs.Text.{is_space}
unfoldable use Rattle.bib_spec.specs.Texts.{months, field_text}
use Rattle.std.proofs.Common.{refl}
use Rattle.merge_spec.proofs.examples.removed_entries_go_or_are_in_conflict.Goals as goal

pub returns-clause-conflict : goal.returns-clause-conflict
unfolding months field_text is_space
returns-clause-conflict c = record { conflict = record { merge = refl; bytes = refl }; gone = refl }

pub returns-clause-gone : goal.returns-clause-gone
unfolding months field_text is_space
returns-clause-gone c = record { merge = refl; bytes = refl }

pub returns-clause-renamed : goal.returns-clause-renamed
unfolding months field_text is_space
returns-clause-renamed c = record { conflict = record { merge = refl; bytes = refl }; gone = refl }
