use Rattle.bib_store.specs.Readings.{OfReading}
use Rattle.bib_extract.proofs.WrittenItems.{IsWrittenTo}
use Rattle.bib_extract.proofs.writing.marked_bytes.Given as goal

abbrev pub invariant-items : goal.invariant-items
invariant-items g l = OfReading l.db (λ r. IsWrittenTo l.marks r.items l.n l.out.items)
