use Rattle.bib_numbers.proofs.Words.{◌≡◌, ◌+◌, ◌∙◌, ℕ, List, suc, slice_index_or, ap, ap₂, arith, plus}
use Rattle.std.proofs.Common.{slice_set}
use Rattle.bib_numbers.proofs.Moves.{moved_so_far, moved_none, moved_read, moved_more, moved_all}
use Rattle.bib_numbers.proofs.moving.move_from.Goals as goal

pub pass-init : goal.pass-init
pass-init c = moved_none (plus c.args.step) c.args.from c.args.numbers.now

pub pass-preserved : goal.pass-preserved
pass-preserved c =
    let move = plus c.args.step in
    let next : suc c.pass.i ≡ c.pass.i + 1 = omega arith in
    ap₂ (λ (l : List ℕ) (m : ℕ). slice_set l c.pass.i m) c.pass.invariant
    (ap (λ (l : List ℕ). move (slice_index_or l c.pass.i 0)) c.pass.invariant ∙ ap move (moved_read move c.pass.i c.args.from 0 c.args.numbers.now))
    ∙ moved_more move c.pass.i c.args.from 0 c.args.numbers.now c.pass.auto.i c.pass-test.true
    ∙ ap (λ (i : ℕ). moved_so_far move i c.args.from c.args.numbers.now) next

pub returns : goal.returns
returns c = c.pass.invariant ∙ moved_all (plus c.args.step) c.pass.i c.args.from c.args.numbers.now c.pass-test.false
