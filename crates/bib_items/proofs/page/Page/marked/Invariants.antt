use Rattle.bib_items.proofs.Words.{Some, take, AreCovered}
use Rattle.bib_items.proofs.page.Page.marked.Given as goal

abbrev pub invariant-items : goal.invariant-items
invariant-items l = AreCovered (Some l.marks) (take l.k l.self)
