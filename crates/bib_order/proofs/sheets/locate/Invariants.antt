use Rattle.bib_pages.specs.Pages.{IsOnWay}
use Rattle.bib_order.proofs.sheets.locate.Given as goal

abbrev pub invariant-pass : goal.invariant-pass
invariant-pass l = IsOnWay l.sheets l.p l.n l.left
