use Rattle.bib_keys.proofs.Words.{◌+◌, ◌≤◌, ◌++◌, List, Text, entries_of, dangling_texts, OfReading, AreTaken}
use Rattle.bib_keys.proofs.DanglingTexts.{texts_from}
use Rattle.bib_keys.proofs.TakenLists.{AreTakenBut}
use Rattle.bib_keys.proofs.taken_keys.TakenKeys.add_dangling.Given as goal

abbrev pub invariant-entries : goal.invariant-entries
invariant-entries g l =
    OfReading l.db (λ r. (others : List Text) → AreTaken others l.initial.self → AreTakenBut (texts_from (entries_of r) l.n) (dangling_texts (entries_of r) ++ others) l.self) × (l.self.count ≤ l.initial.self.count + l.n)
