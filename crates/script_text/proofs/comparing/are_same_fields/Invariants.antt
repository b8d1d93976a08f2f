use Rattle.std.proofs.Common.{◌≡◌, ℕ, ◌<◌, slice_index_or}
use Rattle.bib_spec.specs.Text.{Text}
use Rattle.script_text.proofs.comparing.are_same_fields.Given as goal

abbrev pub invariant-fields : goal.invariant-fields
invariant-fields l = (k : ℕ) → k < l.n → (d : Text × Text) → slice_index_or l.a k d ≡ slice_index_or l.b k d
