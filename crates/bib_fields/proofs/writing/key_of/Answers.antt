use Rattle.std.proofs.Common.{◌∙◌, ap₂}
use Rattle.bib_spec.specs.Text.{Text}
use Rattle.bib_fields.specs.MixSeen.{of_side}
use Rattle.bib_fields.proofs.Sourced.{key-at}
use Rattle.bib_fields.proofs.writing.key_of.Goals as goal

pub returns : goal.returns
returns c eo et is_o is_t =
    c.chosen.ensures ∙ ap₂ (λ (a b : Text). of_side c.args.side a b) c.key.ensures c.key-2.ensures ∙ key-at c.args.side c.args.ours.now c.args.theirs.now eo et is_o is_t
