use Rattle.bib_edit.proofs.Words.{◌∙◌, ap, ◌++◌, line_end}
use Rattle.bib_edit.proofs.moving.line_of.Goals as goal

pub returns : goal.returns
returns g c db reads =
    c.from_vec.ensures ∙ c.in_ok-extend_from_slice.ensures.items
    ∙ ap (λ t. t ++ line_end) (c.in_ok-text.ensures.items ∙ c.body_of.ensures db reads)
