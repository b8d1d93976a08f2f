use Rattle.bib_scan.proofs.Words.{◌-◌, length, read_quoted}
use Rattle.bib_scan.proofs.ScanInvariant.{Scanned}
use Rattle.bib_scan.proofs.value.split_quoted.Given as goal

abbrev pub invariant-loop-found : goal.invariant-loop-found
invariant-loop-found l = Scanned read_quoted l.text l.at l.depth

abbrev pub decreases-loop-found : goal.decreases-loop-found
decreases-loop-found l = length l.text - l.at
