use Rattle.bib_journal.proofs.Words.{◌≡◌, List, ◌∙◌, ap, IfOk-weaker, Piece, applied, reversed}
use Rattle.bib_journal.proofs.ReplayLemmas.{back_is_tested, back_is_allowed}
use Rattle.bib_journal.proofs.replay.try_back.Goals as goal

pub returns-in-Ok-clause-yes : goal.returns-in-Ok-clause-yes
returns-in-Ok-clause-yes g c =
    let is : c.as_slice.result.now ≡ reversed c.args.step.now = cc (c.as_slice.ensures, c.in-Ok.ensures.value) in
    IfOk-weaker c.try_on.result _ _ (λ yes e. (
      λ t. back_is_tested c.args.step.now c.as_slice.result.now c.args.db.now c.requires.ascending c.opens.ensures is (e.0 t),
      λ l. e.1 (back_is_allowed c.args.step.now c.as_slice.result.now c.args.db.now is l),
    )) c.try_on.ensures.yes

pub returns-in-Ok-clause-back : goal.returns-in-Ok-clause-back
returns-in-Ok-clause-back g c =
    let is : c.as_slice.result.now ≡ reversed c.args.step.now = cc (c.as_slice.ensures, c.in-Ok.ensures.value) in
    IfOk-weaker c.try_on.result _ _ (λ yes e t. e t ∙ ap (λ (s : List Piece). applied s c.args.db.now) is) c.try_on.ensures.on
