use Rattle.bib_keys.proofs.Words.{true, sym, ap, subst, IsWith, TakenKeys}
use Rattle.bib_keys.proofs.TakenLists.{added-short, added-long}
use Rattle.bib_keys.proofs.taken_keys.TakenKeys.add.Goals as goal
use Rattle.bib_keys.proofs.taken_keys.TakenKeys.add.Goals.{then-key-le-NAME_LIMIT+in_ok-insert, else-key-le-NAME_LIMIT}

pub returns-clause-taken : goal.returns-clause-taken
returns-clause-taken c keys are =
    elim c.if-key-le-NAME_LIMIT.branch [
      | then-key-le-NAME_LIMIT+in_ok-insert w ↦
          added-short keys c.args.key.now c.args.self.now c.if-key-le-NAME_LIMIT.self are (ap (λ (s : TakenKeys). s.tried) w.self-is) (ap (λ (s : TakenKeys). s.count) w.self-is)
          (subst (IsWith c.args.self.now.taken c.args.key.now true) (sym (ap (λ (s : TakenKeys). s.taken) w.self-is)) w.in_ok-insert.ensures.ok)
      | else-key-le-NAME_LIMIT w ↦
          added-long keys c.args.key.now c.args.self.now c.if-key-le-NAME_LIMIT.self are (ap (λ (s : TakenKeys). s.tried) w.self-is) (ap (λ (s : TakenKeys). s.count) w.self-is)
          (ap (λ (s : TakenKeys). s.taken) w.self-is) w.if-key-le-NAME_LIMIT.false
    ]
