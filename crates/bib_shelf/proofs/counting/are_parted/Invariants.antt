use Rattle.std.proofs.Common.{◌≡◌, ℕ, ◌+◌, ◌<◌, Some, slice_get}
use Rattle.bib_store.specs.Readings.{OfReading}
use Rattle.bib_shelf.specs.Items.{BeginsAt}
use Rattle.bib_shelf.proofs.counting.are_parted.Given as goal

abbrev pub invariant-seams : goal.invariant-seams
invariant-seams g l = OfReading l.db (λ reading. (j : ℕ) (span : ℕ × ℕ) → j + 1 < l.i → slice_get l.spans j ≡ Some span → BeginsAt reading span.1)
