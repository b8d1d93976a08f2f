use Rattle.bib_ris.proofs.DraftSteps.{LeadsTo}
use Rattle.bib_ris.proofs.drafts.read_on.Given as goal

abbrev pub invariant-records : goal.invariant-records
invariant-records l = LeadsTo l.fn.rest l.left

abbrev pub decreases-records : goal.decreases-records
decreases-records l = l.left.lines
