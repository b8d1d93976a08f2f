use Rattle.std.proofs.Common.{take}
use Rattle.bib_store.specs.Readings.{OfReading}
use Rattle.bib_uses.specs.Seen.{AreDefined}
use Rattle.bib_uses.proofs.defined.defined_in.Given as goal

abbrev pub invariant-items : goal.invariant-items
invariant-items g l = OfReading l.db (λ r. AreDefined (take l.n r.items) l.defined)
