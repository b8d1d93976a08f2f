use Rattle.bib_ris.proofs.Words.{◌∙◌, ap, Text}
use Rattle.ris_format.specs.Kinds.{kind_of_entry}
use Rattle.ris_format.specs.Mapping.{is_dropped}
use Rattle.bib_ris.proofs.judging.drops_value.Goals as goal

pub returns : goal.returns
returns c v is same =
    c.in_ok-is_dropped.ensures ∙ ap (λ (t : Text). is_dropped (kind_of_entry c.args.kind_name.now) (c.args.name.now, t)) (c.as_slice.ensures ∙ c.in_ok-text.ensures v is same)
