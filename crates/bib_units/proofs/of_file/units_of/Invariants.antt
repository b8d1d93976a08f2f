use Rattle.bib_store.specs.Readings.{OfReading}
use Rattle.bib_units.proofs.UnitsOfFile.{IsWalkedTo}
use Rattle.bib_units.proofs.of_file.units_of.Given as goal

abbrev pub invariant-items : goal.invariant-items
invariant-items g l = OfReading l.db (λ r. IsWalkedTo r l.n l.rest l.units.items)
