use Rattle.std.proofs.Common.{◌≡◌, ◌∙◌, [], ◌∷◌, ◌++◌, ap, ap₂, append_assoc, codes}
use Rattle.bib_spec.specs.Text.{Text, folded}
use Rattle.merge_run.proofs.lines.add_use.Goals as goal

-- five pieces after a text
five : (before a b d e f : Text) → ((((before ++ a) ++ b) ++ d) ++ e) ++ f ≡ before ++ (a ++ (b ++ (d ++ (e ++ f))))
five before a b d e f = simp append_assoc

pub returns : goal.returns
returns c =
    let before : Text = c.args.out.now.items in
    c.in_ok-push.ensures.items
    ∙ ap (λ (t : Text). t ++ 10 ∷ [])
    (c.in_ok-add_lower.ensures
    ∙ ap₂ (λ (t u : Text). t ++ folded u)
    (c.in_ok-extend_from_slice-3.ensures.items
    ∙ ap (λ (t : Text). t ++ codes " in ")
    (c.in_ok-extend_from_slice-2.ensures.items ∙ ap₂ (λ (t u : Text). t ++ u) c.in_ok-extend_from_slice.ensures.items c.as_slice.ensures))
    c.as_slice-2.ensures)
    ∙ five before (codes "conflict macro ") c.args.lost.now.name (codes " in ") (folded c.args.lost.now.key) (10 ∷ [])
