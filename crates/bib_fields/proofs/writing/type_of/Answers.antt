use Rattle.std.proofs.Common.{◌∙◌, ap₂}
use Rattle.bib_spec.specs.Text.{Text}
use Rattle.bib_fields.specs.MixSeen.{of_side}
use Rattle.bib_fields.proofs.Sourced.{type-at}
use Rattle.bib_fields.proofs.writing.type_of.Goals as goal

pub returns : goal.returns
returns c eo et is_o is_t =
    c.chosen.ensures ∙ ap₂ (λ (a b : Text). of_side c.args.side a b) c.type_name.ensures c.type_name-2.ensures ∙ type-at c.args.side c.args.ours.now c.args.theirs.now eo et is_o is_t
