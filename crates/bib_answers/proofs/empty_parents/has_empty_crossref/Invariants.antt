use Rattle.bib_answers.proofs.Words.{◌≡◌, false, take, list_any, entries_of, OfReading}
use Rattle.bib_answers.specs.Lint.{has_empty_crossref}
use Rattle.bib_answers.proofs.empty_parents.has_empty_crossref.Given as goal

abbrev pub invariant-entries : goal.invariant-entries
invariant-entries l = OfReading l.db (λ r. list_any has_empty_crossref (take l.n (entries_of r)) ≡ false)
