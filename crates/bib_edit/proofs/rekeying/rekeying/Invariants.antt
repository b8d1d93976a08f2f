use Rattle.bib_edit.proofs.Words.{◌≡◌, ◌++◌, start_of, OfReading, rekeying, pieces_after}
use Rattle.bib_edit.proofs.rekeying.rekeying.Given as goal

abbrev pub invariant-entries : goal.invariant-entries
invariant-entries g l = OfReading l.db (λ db. l.pieces.items ++ pieces_after l.new db l.n ≡ rekeying l.new db) × OfReading l.db (λ db. l.place ≡ start_of db l.item)
