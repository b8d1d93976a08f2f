use Rattle.journal_format.proofs.Words.{ℕ, ◌+◌, List, arith, sym, subst, err_from_is_err_and, IsWrongStep, AreWrongSteps}
use Rattle.journal_format.proofs.PieceTexts.{stops_weaker, wrong_step}
use Rattle.journal_format.proofs.Packing.{ArePlacesRead, no_places_read, one_more_place, places_read}
use Rattle.journal_format.proofs.packed_steps.split_places.Goals as goal

pub step-init : goal.step-init
step-init c =
    subst (λ (places : List ℕ). ArePlacesRead c.args.version c.args.count 0 c.args.text.now places c.args.text.now) (sym c.new-places.ensures.items)
    (no_places_read c.args.version c.args.count c.args.text.now)

pub step-preserved : goal.step-preserved
step-preserved c =
    let more = one_more_place c.args.version c.args.count c.step._n c.args.text.now c.step.places.items c.step.rest.now c.in_ok-_step._step c.in_ok-_step.after.now c.step.invariant c.in_ok-_step.ensures.read in
    subst (λ (places : List ℕ). ArePlacesRead c.args.version c.args.count (c.step._n + 1) c.args.text.now places c.in_ok-_step.after.now) (sym c.in_ok-push.ensures.items) more

pub returns-in_err-_step-clause-wrong : goal.returns-in_err-_step-clause-wrong
returns-in_err-_step-clause-wrong c =
    let p = err_from_is_err_and c.from_residual.result c.from_residual.ensures.1 in
    rw (p.1, p.2) (stops_weaker (IsWrongStep c.args.version c.step.rest.now) (λ left. (more : ℕ) → AreWrongSteps c.args.version (c.args.count + more) c.args.text.now left)
    (wrong_step c.args.version c.args.count c.step._n c.args.text.now c.step.invariant.steps c.step.rest.now c.step.invariant.read c.step-test.true) _ c.in_err-_step.ensures.wrong)

pub returns-clause-read : goal.returns-clause-read
returns-clause-read c = places_read c.args.version c.args.count c.step._n c.args.text.now c.step.places.items c.step.rest.now c.step.invariant (omega arith)
