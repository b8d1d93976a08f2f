use Rattle.std.proofs.Common.{◌-◌}
use Rattle.bib_store.specs.Readings.{OfReading}
use Rattle.bib_keys.specs.TakenKeys.{AreTried, taken_in}
use Rattle.bib_ris.proofs.free_key.look_up.Given as goal

abbrev pub invariant-candidates : goal.invariant-candidates
invariant-candidates g l = OfReading l.db (λ r. AreTried (taken_in r l.ids) l.base l.n)

abbrev pub decreases-candidates : goal.decreases-candidates
decreases-candidates g l = l.most - l.n
