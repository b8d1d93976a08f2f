use Rattle.std.proofs.Common.{◌≡◌, ℕ, ◌<◌, slice_index_or}
use Rattle.bib_data.specs.declared.request.Request.{Request}
use Rattle.script_text.proofs.comparing.are_same.Given as goal

abbrev pub invariant-requests : goal.invariant-requests
invariant-requests l = (k : ℕ) → k < l.n → (d : Request) → slice_index_or l.a k d ≡ slice_index_or l.b k d
