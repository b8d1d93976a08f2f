use Rattle.bib_store.proofs.Words.{◌≡◌, length, take, entries_of, OfReading, AreCounts}
use Rattle.bib_store.proofs.database.Database.counts_of_parents.Given as goal

abbrev pub invariant-loop-n : goal.invariant-loop-n
invariant-loop-n g l = record {
  counts : OfReading l.self (λ db. AreCounts (entries_of db) (take l.n-index l.listed) l.counts.items);
  count : OfReading l.self (λ db. length l.counts.items ≡ length (entries_of db));
}
