use Rattle.bib_keys.proofs.Words.{◌∙◌, ap, IfOk-weaker, free_key}
use Rattle.bib_keys.proofs.making.make_key.Goals as goal

pub returns-clause-key : goal.returns-clause-key
returns-clause-key g c =
    IfOk-weaker c.take_free.result _ _
    (λ key h db reads entry at keys are. h keys are ∙ ap (free_key keys) (c.as_slice.ensures ∙ c.in_ok-base.ensures.base db reads entry at))
    c.take_free.ensures.key
