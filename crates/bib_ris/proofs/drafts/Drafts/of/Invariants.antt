use Rattle.bib_ris.proofs.DraftSteps.{AreSaid}
use Rattle.bib_ris.proofs.drafts.Drafts.of.Given as goal

abbrev pub invariant-records : goal.invariant-records
invariant-records l = AreSaid l.latex l.text l.rest l.drafts

abbrev pub decreases-records : goal.decreases-records
decreases-records l = l.rest.lines
