use Rattle.bib_numbers.proofs.FilledPages.{AreCounted}
use Rattle.bib_numbers.proofs.starts.count_anew.Given as goal

abbrev pub invariant-pass : goal.invariant-pass
invariant-pass l = AreCounted l.leaves l.initial.firsts l.firsts l.p l.first
