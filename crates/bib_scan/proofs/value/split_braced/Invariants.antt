use Rattle.bib_scan.proofs.Words.{◌-◌, length, IsMarked, read_braced}
use Rattle.bib_scan.proofs.ScanInvariant.{Scanned}
use Rattle.bib_scan.proofs.value.split_braced.Given as goal

abbrev pub invariant-loop-brace : goal.invariant-loop-brace
invariant-loop-brace l = record { scanned : Scanned read_braced l.text l.at l.depth; known : IsMarked l.text l.at l.marked }

abbrev pub decreases-loop-brace : goal.decreases-loop-brace
decreases-loop-brace l = length l.text - l.at
