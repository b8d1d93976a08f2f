use Rattle.std.proofs.Common.{◌∙◌, ap₂}
use Rattle.bib_spec.specs.Text.{Text}
use Rattle.bib_fields.specs.MixSeen.{of_side}
use Rattle.bib_fields.proofs.writing.body_of.Goals as goal

pub returns : goal.returns
returns c = c.chosen.ensures ∙ ap₂ (λ (a b : Text). of_side c.args.side a b) c.body.ensures c.body-2.ensures
