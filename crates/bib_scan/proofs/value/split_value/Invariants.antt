use Rattle.bib_scan.proofs.Words.{length, name_limit}
use Rattle.bib_scan.proofs.ScanInvariant.{LeadsOn}
use Rattle.bib_scan.proofs.value.split_value.Given as goal

abbrev pub invariant-loop-next : goal.invariant-loop-next
invariant-loop-next l = LeadsOn name_limit l.text l.rest

abbrev pub decreases-loop-next : goal.decreases-loop-next
decreases-loop-next l = length l.rest
