use Rattle.std.proofs.Common.{◌≡◌, ◌∙◌, ◌++◌, ap, append_assoc, codes}
use Rattle.bib_spec.specs.Text.{Text}
use Rattle.bib_units.specs.Labels.{label_seen}
use Rattle.merge_run.specs.Lines.{name_words}
use Rattle.merge_run.proofs.lines.add_field.Goals as goal

-- four pieces after a text
four : (before a b d e : Text) → (((before ++ a) ++ b) ++ d) ++ e ≡ before ++ (a ++ (b ++ (d ++ e)))
four before a b d e = simp append_assoc

pub returns : goal.returns
returns c =
    let before : Text = c.args.out.now.items in
    let key : Text = name_words (label_seen c.args.label) in
    c.in_ok-extend_from_slice-3.ensures.items
    ∙ ap (λ (t : Text). t ++ c.args.name.now)
    (c.in_ok-extend_from_slice-2.ensures.items
    ∙ ap (λ (t : Text). t ++ codes " ") (c.in_ok-add_name.ensures ∙ ap (λ (t : Text). t ++ key) c.in_ok-extend_from_slice.ensures.items))
    ∙ four before (codes "field ") key (codes " ") c.args.name.now
