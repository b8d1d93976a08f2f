use Rattle.bib_edit.proofs.Words.{◌≡◌, ◌+◌, ℕ, OfReading}
use Rattle.bib_edit.proofs.DefinitionsEnd.{IsEndIn}
use Rattle.bib_edit.proofs.define_macro.definitions_end.Given as goal

abbrev pub invariant-items : goal.invariant-items
invariant-items g l = OfReading l.db (λ r. (k : ℕ) → k + l.passed ≡ l.count → IsEndIn r.items k)
