use Rattle.bib_numbers.proofs.Words.{IsOnWay}
use Rattle.bib_numbers.proofs.leaves.locate_from.Given as goal

abbrev pub invariant-pass : goal.invariant-pass
invariant-pass l = IsOnWay l.leaves l.p l.k l.left
