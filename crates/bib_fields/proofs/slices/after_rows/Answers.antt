use Rattle.std.proofs.Common.{ℕ, ◌+◌, ◌∙◌, ap₂, drop}
use Rattle.bib_spec.specs.Text.{Text}
use Rattle.bib_fields.proofs.slices.after_rows.Goals as goal

pub returns : goal.returns
returns c = c.in-Some.ensures ∙ ap₂ (λ (p : ℕ × ℕ) (b : Text). drop (p.0 + p.1) b) c.last_of-place.ensures c.body.ensures
