unfoldable use Rattle.bib_spec.specs.Text.{is_space}
unfoldable use Rattle.bib_spec.specs.Texts.{months, field_text}
use Rattle.std.proofs.Common.{refl}
use Rattle.merge_spec.proofs.examples.fields_are_merged_one_by_one.Goals as goal

pub returns-clause-set : goal.returns-clause-set
unfolding months field_text is_space
returns-clause-set c = record { merge = refl; bytes = refl }

pub returns-clause-added : goal.returns-clause-added
unfolding months field_text is_space
returns-clause-added c = record { merge = refl; bytes = refl }

pub returns-clause-dropped : goal.returns-clause-dropped
unfolding months field_text is_space
returns-clause-dropped c = record { gone = record { merge = refl; bytes = refl }; back = refl }

pub returns-clause-conflict : goal.returns-clause-conflict
unfolding months field_text is_space
returns-clause-conflict c = record { conflict = record { merge = refl; bytes = refl }; ours = refl; theirs = refl }

pub returns-clause-other : goal.returns-clause-other
unfolding months field_text is_space
returns-clause-other c = record { merge = refl; bytes = refl }

pub returns-clause-told : goal.returns-clause-told
unfolding months field_text is_space
returns-clause-told c = record { field = refl; each = refl; dropped = refl; whole = refl }
