use Rattle.bib_order.proofs.Ordering.{IsSearched}
use Rattle.bib_order.proofs.sheets.seek.Given as goal

abbrev pub invariant-pass : goal.invariant-pass
invariant-pass l = IsSearched l.sheets l.name l.id l.p l.before
