use Rattle.bib_answers.proofs.Words.{◌≡◌, false, take, list_any, entries_of, OfReading}
use Rattle.bib_answers.specs.Lint.{has_no_key}
use Rattle.bib_answers.proofs.empty_parents.has_no_key.Given as goal

abbrev pub invariant-entries : goal.invariant-entries
invariant-entries l = OfReading l.db (λ r. list_any has_no_key (take l.n (entries_of r)) ≡ false)
