use Rattle.bib_spec.specs.Records.{entries_of}
use Rattle.bib_store.specs.Readings.{OfReading}
use Rattle.bib_extract.proofs.MarkedEntries.{AreMarkedTo}
use Rattle.bib_extract.proofs.entries.mark_all.Given as goal

abbrev pub invariant-list : goal.invariant-list
invariant-list g l = OfReading l.db (λ r. AreMarkedTo (entries_of r) l.list l.n-index l.marks)
