use Rattle.journal_format.proofs.Words.{◌≡◌, arith}
use Rattle.journal_format.proofs.NumberLines.{same_number, numbers_uncut, numbers_cut, lens_uncut, lens_cut}
use Rattle.journal_format.proofs.pieces.read_numbers.Goals as goal

pub returns-in_err-place-clause-none : goal.returns-in_err-place-clause-none
returns-in_err-place-clause-none c = rw c.from_residual.ensures (numbers_uncut c.args.from c.args.line.now c.in_err-place.ensures.none)

pub returns-in_err-old_len-clause-none : goal.returns-in_err-old_len-clause-none
returns-in_err-old_len-clause-none c =
    rw c.from_residual-in_err-old_len.ensures (lens_uncut c.args.from _ _ _ c.in_ok-place.ensures.found c.in_err-old_len.ensures.none)

pub returns-in_err-place-2-clause-none : goal.returns-in_err-place-2-clause-none
returns-in_err-place-2-clause-none c =
    rw c.from_residual-in_err-place-2.ensures (λ l.
    c.in_err-place-2.ensures.none (l.0.place, l.1.place, (numbers_cut c.args.from _ _ _ c.in_ok-place.ensures.found l).0))

pub returns-in_err-old_len-2-clause-none : goal.returns-in_err-old_len-2-clause-none
returns-in_err-old_len-2-clause-none c =
    rw c.from_residual-in_err-old_len-2.ensures (λ l.
    c.in_err-old_len-2.ensures.none (l.0.old_len, l.1.old_len, (lens_cut c.args.from _ _ _ _ _ c.in_ok-place.ensures.found c.in_ok-old_len.ensures.found l).0))

pub returns-in_err-new_len-clause-none : goal.returns-in_err-new_len-clause-none
returns-in_err-new_len-clause-none c =
    rw c.from_residual-in_err-new_len.ensures (λ l.
    c.in_err-new_len.ensures.none (l.0.new_len, l.1.new_len, (lens_cut c.args.from _ _ _ _ _ c.in_ok-place.ensures.found c.in_ok-old_len.ensures.found l).1))

pub returns-else-from-place-clause-none : goal.returns-else-from-place-clause-none
returns-else-from-place-clause-none c = λ l.
    let place : c.in_ok-place-2.place ≡ l.0.place =
    same_number _ _ _ c.in_ok-place-2.ensures.some.0 l.1.place c.in_ok-place-2.ensures.some.1 (numbers_cut c.args.from _ _ _ c.in_ok-place.ensures.found l).0 in
    omega (arith, l.1.after, place, c.if-from-place.false)
