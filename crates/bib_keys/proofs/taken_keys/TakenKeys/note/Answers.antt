use Rattle.bib_keys.proofs.Words.{List, ℕ, refl, subst, Text, IsWith}
use Rattle.bib_keys.proofs.TakenLists.{with-tried}
use Rattle.bib_keys.proofs.taken_keys.TakenKeys.note.Goals as goal

pub returns-in-Some-clause-taken : goal.returns-in-Some-clause-taken
returns-in-Some-clause-taken c keys are tried = with-tried keys c.args.base.now c.args.n c.args.self.now _ are tried refl c.in-Some.ensures.some refl

pub returns-in_ok-insert-in-None-clause-taken : goal.returns-in_ok-insert-in-None-clause-taken
returns-in_ok-insert-in-None-clause-taken c keys are tried =
    let noted : IsWith c.args.self.now.tried c.args.base.now c.args.n c.insert.new.self = subst (λ (t : List (Text × ℕ)). IsWith t c.args.base.now c.args.n c.insert.new.self) c.in-None.ensures.none c.in_ok-insert-in-None.ensures.ok in
    with-tried keys c.args.base.now c.args.n c.args.self.now _ are tried refl noted refl
