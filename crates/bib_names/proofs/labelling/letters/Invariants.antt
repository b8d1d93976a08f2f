use Rattle.bib_names.proofs.Words.{◌≡◌, ◌++◌, letters}
use Rattle.bib_names.proofs.labelling.letters.Given as goal

abbrev pub decreases-loop-rest : goal.decreases-loop-rest
decreases-loop-rest l = l.rest

abbrev pub invariant-loop-rest : goal.invariant-loop-rest
invariant-loop-rest l = l.letters.items ++ letters l.rest ≡ letters l.number
