use Rattle.bib_scan.proofs.Words.{◌-◌, length, IsMarked}
use Rattle.bib_scan.proofs.braces.next_brace.Given as goal

abbrev pub invariant-loop-now : goal.invariant-loop-now
invariant-loop-now l = IsMarked l.text l.at l.now

abbrev pub decreases-loop-now : goal.decreases-loop-now
decreases-loop-now l = length l.text - l.now.end
