use Rattle.bib_scan.proofs.Words.{◌-◌, length}
use Rattle.bib_scan.proofs.CommandLemmas.{NoneUpTo}
use Rattle.bib_scan.proofs.opening.next_command.Given as goal

abbrev pub invariant-loop-found : goal.invariant-loop-found
invariant-loop-found l = NoneUpTo l.text l.at

abbrev pub decreases-loop-found : goal.decreases-loop-found
decreases-loop-found l = length l.text - l.at
