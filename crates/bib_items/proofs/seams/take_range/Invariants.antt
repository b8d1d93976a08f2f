use Rattle.bib_items.proofs.Words.{joined, ArePages, AreStarts}
use Rattle.bib_items.proofs.WholePages.{IsCutTo}
use Rattle.bib_items.proofs.seams.take_range.Given as goal

abbrev pub decreases-out : goal.decreases-out
decreases-out l = l.left

abbrev pub invariant-out : goal.invariant-out
invariant-out l = IsCutTo (joined l.initial.pages.items) (joined l.pages.items) l.from l.to l.left × (ArePages l.pages.items × AreStarts l.pages.items l.starts.items)
