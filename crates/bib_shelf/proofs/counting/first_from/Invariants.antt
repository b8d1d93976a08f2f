use Rattle.std.proofs.Common.{◌-◌}
use Rattle.bib_store.specs.Readings.{OfReading}
use Rattle.bib_shelf.proofs.Searches.{IsSearched}
use Rattle.bib_shelf.proofs.counting.first_from.Given as goal

abbrev pub invariant-search : goal.invariant-search
invariant-search g l = OfReading l.db (λ reading. IsSearched reading l.place l.first l.end)

abbrev pub decreases-search : goal.decreases-search
decreases-search g l = l.end - l.first
