use Rattle.bib_keys.proofs.Words.{◌∷◌}
use Rattle.bib_keys.proofs.TakenLists.{tried-free}
use Rattle.bib_keys.proofs.taken_keys.TakenKeys.take.Goals as goal

pub returns-clause-taken : goal.returns-clause-taken
returns-clause-taken c keys are tried is =
    c.in_ok-note.ensures.taken (c.args.key.now ∷ keys) (c.in_ok-add.ensures.taken keys are) (tried-free keys c.args.key.now c.args.base.now c.args.n tried is)
