use Rattle.bib_store.proofs.Words.{entries_of, OfReading}
use Rattle.bib_store.proofs.Citations.{AreFound}
use Rattle.bib_store.proofs.database.Database.find_all.Given as goal

abbrev pub invariant-loop-place : goal.invariant-loop-place
invariant-loop-place g l = OfReading l.self (λ db. AreFound (entries_of db) l.keys l.numbers.items l.unknown.items l.place)
