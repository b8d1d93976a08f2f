use Rattle.bib_edit.proofs.Words.{◌∙◌, ap, ◌++◌}
use Rattle.bib_edit.proofs.SeenItems.{tested-joined}
use Rattle.bib_edit.proofs.taking_out.continues_cleanly.Goals as goal

pub returns-clause-clean : goal.returns-clause-clean
returns-clause-clean g c db reads =
    let parts = c.text_before-after_comment.ensures db reads in
    tested-joined db c.args.n c.args.more.now _ _ _ c.is_clean_trail.ensures parts.0
    (c.as_slice.ensures.value ∙ c.in_ok-extend_from_slice.ensures.items ∙ ap (λ t. t ++ c.args.more.now) (c.in_ok-joined.ensures.items ∙ parts.1))
