use Rattle.std.proofs.Common.{◌∙◌, [], ◌∷◌, ◌++◌, ap, append_assoc, codes}
use Rattle.bib_spec.specs.Text.{Text, folded}
use Rattle.merge_run.proofs.lines.add_lost.Goals as goal

pub returns : goal.returns
returns c =
    let before : Text = c.args.out.now.items in
    let key : Text = folded c.args.key.now in
    c.in_ok-push.ensures.items
    ∙ ap (λ (t : Text). t ++ 10 ∷ []) (c.in_ok-add_lower.ensures ∙ ap (λ (t : Text). t ++ key) c.in_ok-extend_from_slice.ensures.items)
    ∙ append_assoc (before ++ codes "conflict crossref ") key (10 ∷ [])
    ∙ append_assoc before (codes "conflict crossref ") (key ++ 10 ∷ [])
