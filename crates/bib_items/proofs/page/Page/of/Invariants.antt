use Rattle.bib_items.proofs.Gathered.{AreSpansOf}
use Rattle.bib_items.proofs.page.Page.of.Given as goal

abbrev pub invariant-fill : goal.invariant-fill
invariant-fill l = AreSpansOf l.text l.start l.from l.n l.spans.items l.place
