use Rattle.bib_items.proofs.Words.{joined}
use Rattle.bib_items.proofs.Filled.{IsBegun}
use Rattle.bib_items.proofs.paged.Paged.put_each_in.Given as goal

abbrev pub invariant-fill : goal.invariant-fill
invariant-fill l = IsBegun (joined l.fn.self) (joined l.self) l.at l.k l.text
