use Rattle.bib_journal.proofs.Words.{◌≡◌, ◌≤◌, ◌-◌, List, [], ◌∷◌, ◌++◌, true, length, take, drop, arith, sym, subst, ◌∙◌, ap, Piece, Step, Leads, before}
use Rattle.bib_journal.proofs.ReplayLemmas.{one_gone_back, stuck_back, part_last}
use Rattle.bib_journal.proofs.packed_replay.go_back_between.Goals as goal

pub returns-then-not-branch-clause-yes : goal.returns-then-not-branch-clause-yes
returns-then-not-branch-clause-yes g c =
    let step : Step = c.in_ok-step.step in
    let within : c.step.n ≤ length c.args.steps.now = omega (arith, c.step.invariant.last, c.requires.within) in
    let split : drop c.args.from (take c.step.n c.args.steps.now) ≡ drop c.args.from (take (c.step.n - 1) c.args.steps.now) ++ step ∷ [] =
    part_last c.args.steps.now c.args.from c.step.n step c.step-test.true within c.in_ok-step.ensures in
    let is : c.as_slice.result.now ≡ step.pieces = c.as_slice.ensures ∙ ap (λ (s : Step). s.pieces) c.step-in-step.view_is in
    let no : Leads step.pieces (before step.pieces c.step.db) c.step.db → ⊥ =
    (λ l. let here : Leads c.as_slice.result.now (before c.as_slice.result.now c.step.db) c.step.db =
    subst (λ (ps : List Piece). Leads ps (before ps c.step.db) c.step.db) (sym is) l in
    let yes : c.in_ok-try_back.field-0 ≡ true = c.in_ok-try_back.ensures.yes.1 here in absurd (cc)) in
    (λ t. absurd (cc), λ w. absurd (stuck_back _ _ _ _ _ _ c.step.invariant.gone split no w))

pub step-preserved : goal.step-preserved
step-preserved g c =
    let step : Step = c.in_ok-step.step in
    let within : c.step.n ≤ length c.args.steps.now = omega (arith, c.step.invariant.last, c.requires.within) in
    let split : drop c.args.from (take c.step.n c.args.steps.now) ≡ drop c.args.from (take (c.step.n - 1) c.args.steps.now) ++ step ∷ [] =
    part_last c.args.steps.now c.args.from c.step.n step c.step-test.true within c.in_ok-step.ensures in
    let is : c.as_slice.result.now ≡ step.pieces = c.as_slice.ensures ∙ ap (λ (s : Step). s.pieces) c.step-in-step.view_is in
    let leads : Leads step.pieces (before step.pieces c.step.db) c.step.db =
    subst (λ (ps : List Piece). Leads ps (before ps c.step.db) c.step.db) is (c.in_ok-try_back.ensures.yes.0 c.if-not-branch.false) in
    record {
      first = omega (arith, c.step-test.true);
      last = omega (arith, c.step.invariant.last);
      gone = one_gone_back _ _ _ _ _ _ _ c.step.invariant.gone split leads
          (c.in_ok-try_back.ensures.back c.if-not-branch.false ∙ ap (λ (ps : List Piece). before ps c.step.db) is);
    }
