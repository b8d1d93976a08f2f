use Rattle.bib_edit.proofs.Words.{◌≡◌, start_of, OfReading}
use Rattle.bib_edit.proofs.rekeying.place_from.Given as goal

abbrev pub invariant-items : goal.invariant-items
invariant-items g l = OfReading l.db (λ r. l.place ≡ start_of r l.k)
