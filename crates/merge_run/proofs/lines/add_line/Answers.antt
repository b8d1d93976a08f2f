use Rattle.std.proofs.Common.{◌≡◌, ◌∙◌, [], ◌∷◌, ◌++◌, ap, append_assoc, codes}
use Rattle.bib_spec.specs.Text.{Text}
use Rattle.bib_units.specs.Labels.{label_seen}
use Rattle.merge_run.specs.Lines.{label_words}
use Rattle.merge_run.proofs.lines.add_line.Goals as goal

-- four pieces after a text
four : (before a b d e : Text) → (((before ++ a) ++ b) ++ d) ++ e ≡ before ++ (a ++ ((b ++ d) ++ e))
four before a b d e = simp append_assoc

pub returns : goal.returns
returns c =
    let before : Text = c.args.out.now.items in
    let label : Text = label_words (label_seen c.args.label) in
    c.in_ok-push.ensures.items
    ∙ ap (λ (t : Text). t ++ 10 ∷ [])
    (c.in_ok-add_label.ensures ∙ ap (λ (t : Text). t ++ label) (c.in_ok-extend_from_slice-2.ensures.items ∙ ap (λ (t : Text). t ++ c.args.words.now) c.in_ok-extend_from_slice.ensures.items))
    ∙ four before (codes "conflict ") c.args.words.now label (10 ∷ [])
