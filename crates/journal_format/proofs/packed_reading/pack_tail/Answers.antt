use Rattle.journal_format.proofs.Words.{◌≡◌, ℕ, ◌+◌, ◌≤◌, arith, [], sym, subst, length, ap, err_from_is_err_and, Text, steps_limit, AreWrongSteps, IsWrongTail}
use Rattle.std.proofs.lemmas.Bool.{eqb-false, eqb-true}
use Rattle.std.proofs.lemmas.List.{nil_from_length}
use Rattle.journal_format.proofs.PieceTexts.{stops_weaker, tail_wrong, bytes_left}
use Rattle.journal_format.proofs.Packing.{tail_packed}
use Rattle.journal_format.proofs.packed_reading.pack_tail.Goals as goal

-- the limit of the version is the limit in the test
short : (text : Text) (n limit : ℕ) → n ≡ limit → length text ≤ n → length text ≤ limit
short text n limit e h = omega (arith, e, h)

pub returns-in_err-redo_places-clause-wrong : goal.returns-in_err-redo_places-clause-wrong
returns-in_err-redo_places-clause-wrong c =
    let p = err_from_is_err_and c.from_residual-in_err-redo_places.result c.from_residual-in_err-redo_places.ensures.1 in
    rw (p.1, p.2) (stops_weaker (λ left. (more : ℕ) → AreWrongSteps c.args.version (c.args.redos + more) c.in_ok-undo_places.after.now left) (IsWrongTail c.args.version (c.args.undos + c.args.redos) c.args.text.now)
    (λ left w.
    let here : AreWrongSteps c.args.version c.args.redos c.in_ok-undo_places.after.now left = subst (λ (n : ℕ). AreWrongSteps c.args.version n c.in_ok-undo_places.after.now left) (omega arith) (w 0) in
    tail_wrong c.args.version c.in_ok-undo_places.ensures.read.steps c.args.undos c.args.redos c.args.text.now c.in_ok-undo_places.after.now left (short c.args.text.now c.steps_limit-limit.result (steps_limit c.args.version) c.steps_limit-limit.ensures c.if-text-limit.false)
    c.in_ok-undo_places.ensures.read.many c.in_ok-undo_places.ensures.read.good c.in_ok-undo_places.ensures.read.whole here)
    _ c.in_err-redo_places.ensures.wrong)

pub returns-then-not-is_empty-clause-wrong : goal.returns-then-not-is_empty-clause-wrong
returns-then-not-is_empty-clause-wrong c =
    let some : c.in_ok-redo_places.rest.now ≡ [] → ⊥ = λ e. eqb-false _ _ (sym c.if-not-is_empty.ensures) (ap length e) in
    tail_wrong c.args.version c.in_ok-undo_places.ensures.read.steps c.args.undos c.args.redos c.args.text.now c.in_ok-undo_places.after.now (length c.in_ok-redo_places.rest.now) (short c.args.text.now c.steps_limit-limit.result (steps_limit c.args.version) c.steps_limit-limit.ensures c.if-text-limit.false)
    c.in_ok-undo_places.ensures.read.many c.in_ok-undo_places.ensures.read.good c.in_ok-undo_places.ensures.read.whole
    (bytes_left c.args.version c.in_ok-redo_places.ensures.read.steps c.args.redos c.in_ok-undo_places.after.now c.in_ok-redo_places.rest.now c.in_ok-redo_places.ensures.read.many c.in_ok-redo_places.ensures.read.good c.in_ok-redo_places.ensures.read.whole some)

pub returns-clause-read : goal.returns-clause-read
returns-clause-read c =
    tail_packed c.args.version c.args.undos c.args.redos c.args.text.now c.in_ok-undo_places.after.now c.in_ok-redo_places.rest.now c.split_at.result.0.now
    c.in_ok-undo_places.undo_places.items c.in_ok-redo_places.redo_places.items _ _
    (short c.args.text.now c.steps_limit-limit.result (steps_limit c.args.version) c.steps_limit-limit.ensures c.if-text-limit.false)
    c.in_ok-undo_places.ensures.read c.in_ok-redo_places.ensures.read (nil_from_length _ (eqb-true _ _ (sym c.if-not-is_empty.ensures)))
    c.split_at.ensures.front c.packed-past.ensures c.packed-future.ensures
