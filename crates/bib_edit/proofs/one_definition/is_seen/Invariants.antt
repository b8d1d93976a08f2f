use Rattle.bib_edit.proofs.Words.{◌≡◌, ◌+◌, drop, OfReading}
use Rattle.edit_spec.specs.Edits.{is_used_before_next}
use Rattle.bib_edit.proofs.one_definition.is_seen.Given as goal

abbrev pub invariant-items : goal.invariant-items
invariant-items g l = OfReading l.db (λ r. is_used_before_next l.name (drop (l.n + 1) r.items) ≡ is_used_before_next l.name (drop l.k r.items))
