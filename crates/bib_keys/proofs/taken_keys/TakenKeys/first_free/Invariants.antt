use Rattle.bib_keys.proofs.Words.{◌+◌, ◌-◌, List, Text, AreTaken, AreTried}
use Rattle.bib_keys.proofs.taken_keys.TakenKeys.first_free.Given as goal

abbrev pub invariant-candidates : goal.invariant-candidates
invariant-candidates l = (keys : List Text) → AreTaken keys l.self → AreTried keys l.base l.from → AreTried keys l.base l.n

abbrev pub decreases-candidates : goal.decreases-candidates
decreases-candidates l = l.self.count + 1 - l.n
