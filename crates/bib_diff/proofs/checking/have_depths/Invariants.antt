use Rattle.std.proofs.Common.{ℕ, ◌<◌, slice_index_or}
use Rattle.bib_data.specs.declared.request.Request.{Request}
use Rattle.bib_data.specs.Depths.{AsksWithDepth}
use Rattle.bib_diff.proofs.checking.have_depths.Given as goal

abbrev pub invariant-requests : goal.invariant-requests
invariant-requests l = (k : ℕ) → k < l.n → (d : Request) → AsksWithDepth (slice_index_or l.requests k d)
