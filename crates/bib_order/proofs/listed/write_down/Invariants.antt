use Rattle.bib_order.proofs.Counted.{IsWritten}
use Rattle.bib_order.proofs.listed.write_down.Given as goal

abbrev pub invariant-fill : goal.invariant-fill
invariant-fill l = IsWritten l.id l.count l.fn.list l.list
