use Rattle.std.proofs.Common.{◌≤◌}
use Rattle.bib_store.specs.Readings.{OfReading}
use Rattle.bibtex_plain.specs.Walks.{IsWalk}
use Rattle.bibtex_plain.proofs.plain.not_plain.Given as goal

abbrev pub invariant-items : goal.invariant-items
invariant-items l = (l.walk.count.entries ≤ l.n) × OfReading l.db (λ r. IsWalk r l.n l.walk)
