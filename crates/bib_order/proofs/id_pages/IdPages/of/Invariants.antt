use Rattle.bib_order.proofs.Words.{◌≡◌, take}
use Rattle.bib_order.proofs.id_pages.IdPages.of.Given as goal

abbrev pub invariant-fill : goal.invariant-fill
invariant-fill l = l.paged ≡ take l.k l.ids
