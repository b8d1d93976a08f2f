use Rattle.bib_keys.proofs.Words.{◌≡◌, ◌+◌, ◌++◌, List, drop, Text, AreTaken}
use Rattle.bib_keys.proofs.TakenLists.{AreTakenBut}
use Rattle.bib_keys.proofs.taken_keys.TakenKeys.add_all.Given as goal

abbrev pub invariant-loop-key : goal.invariant-loop-key
invariant-loop-key l = ((others : List Text) → AreTaken others l.initial.self → AreTakenBut (drop l.key-index l.keys) (l.keys ++ others) l.self) × (l.self.count ≡ l.initial.self.count + l.key-index)
