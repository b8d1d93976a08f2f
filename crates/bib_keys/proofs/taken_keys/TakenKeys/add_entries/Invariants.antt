use Rattle.bib_keys.proofs.Words.{◌≡◌, ◌+◌, ◌++◌, List, drop, Text, entries_of, keys_of, OfReading, AreTaken}
use Rattle.bib_keys.proofs.TakenLists.{AreTakenBut}
use Rattle.bib_keys.proofs.taken_keys.TakenKeys.add_entries.Given as goal

abbrev pub invariant-entries : goal.invariant-entries
invariant-entries g l =
    OfReading l.db (λ r. (others : List Text) → AreTaken others l.initial.self → AreTakenBut (drop l.n (keys_of (entries_of r))) (keys_of (entries_of r) ++ others) l.self) × (l.self.count ≡ l.initial.self.count + l.n)
