use Rattle.bib_journal.proofs.Words.{◌≡◌, ◌<◌, List, true, length, get_or, arith, sym, subst, ◌∙◌, ap, Piece, Step, applied, IsAllowed}
use Rattle.std.proofs.lemmas.Option.{get_or_from_slice_get}
use Rattle.bib_journal.proofs.ReplayLemmas.{none_gone_on, one_gone_on, stuck_on}
use Rattle.bib_journal.proofs.packed_replay.go_on_through.Goals as goal

pub step-init : goal.step-init
step-init g c = none_gone_on _ _ c.opens.ensures

pub returns-then-not-branch-clause-yes : goal.returns-then-not-branch-clause-yes
returns-then-not-branch-clause-yes g c =
    let step : Step = c.in_ok-step.step in
    let within : c.step.n < length c.args.steps.now = omega (arith, c.step-test.true, c.len-n-end.ensures.count) in
    let same : step ≡ get_or c.args.steps.now c.step.n step = sym (get_or_from_slice_get c.args.steps.now c.step.n step step c.in_ok-step.ensures) in
    let is : c.as_slice.result.now ≡ step.pieces = c.as_slice.ensures ∙ ap (λ (s : Step). s.pieces) c.step-in-step.view_is in
    let no : IsAllowed step.pieces c.step.db → ⊥ =
    (λ a. let here : IsAllowed c.as_slice.result.now c.step.db = subst (λ (ps : List Piece). IsAllowed ps c.step.db) (sym is) a in
    let yes : c.in_ok-try_on.field-0 ≡ true = c.in_ok-try_on.ensures.yes.1 here in absurd (cc)) in
    (λ t. absurd (cc), λ w. absurd (stuck_on _ _ _ _ step c.step.invariant within same no w))

pub step-preserved : goal.step-preserved
step-preserved g c =
    let step : Step = c.in_ok-step.step in
    let within : c.step.n < length c.args.steps.now = omega (arith, c.step-test.true, c.len-n-end.ensures.count) in
    let same : step ≡ get_or c.args.steps.now c.step.n step = sym (get_or_from_slice_get c.args.steps.now c.step.n step step c.in_ok-step.ensures) in
    let is : c.as_slice.result.now ≡ step.pieces = c.as_slice.ensures ∙ ap (λ (s : Step). s.pieces) c.step-in-step.view_is in
    let allowed : IsAllowed step.pieces c.step.db = subst (λ (ps : List Piece). IsAllowed ps c.step.db) is (c.in_ok-try_on.ensures.yes.0 c.if-not-branch.false) in
    one_gone_on _ _ _ _ _ step c.step.invariant within same allowed (c.in_ok-try_on.ensures.on c.if-not-branch.false ∙ ap (λ (ps : List Piece). applied ps c.step.db) is)
