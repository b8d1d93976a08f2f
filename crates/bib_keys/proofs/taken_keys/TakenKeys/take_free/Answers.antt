use Rattle.bib_keys.proofs.Words.{◌∷◌, ◌∙◌, subst, Text, AreTaken}
use Rattle.bib_keys.proofs.taken_keys.TakenKeys.take_free.Goals as goal

pub returns-clause-taken : goal.returns-clause-taken
returns-clause-taken c keys are =
    let tried = c.in_ok-free.ensures.tried keys are (c.tried-from.ensures keys are) in
    subst (λ (key : Text). AreTaken (key ∷ keys) c.take.new.self) c.as_slice.ensures (c.in_ok-take.ensures.taken keys are tried (c.as_slice.ensures ∙ c.in_ok-free.ensures.number.0))
