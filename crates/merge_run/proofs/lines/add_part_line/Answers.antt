use Rattle.std.proofs.Common.{◌∙◌, [], ◌∷◌, ◌++◌, ap, append_assoc, codes}
use Rattle.bib_spec.specs.Text.{Text}
use Rattle.bib_units.specs.Labels.{label_seen}
use Rattle.bib_fields.specs.PartsSeen.{part_seen}
use Rattle.merge_run.specs.Lines.{part_words}
use Rattle.merge_run.proofs.lines.add_part_line.Goals as goal

pub returns : goal.returns
returns c =
    let before : Text = c.args.out.now.items in
    let words : Text = part_words (label_seen c.args.label) (part_seen c.args.part.now) in
    c.in_ok-push.ensures.items
    ∙ ap (λ (t : Text). t ++ 10 ∷ []) (c.in_ok-add_part.ensures ∙ ap (λ (t : Text). t ++ words) c.in_ok-extend_from_slice.ensures.items)
    ∙ append_assoc (before ++ codes "conflict ") words (10 ∷ [])
    ∙ append_assoc before (codes "conflict ") (words ++ 10 ∷ [])
