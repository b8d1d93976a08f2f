use Rattle.bib_scan.proofs.Words.{arith, err_from_is_err_and, name_limit}
use Rattle.bib_scan.proofs.ValueLemmas.{leads_on, value_fault, value_end}
use Rattle.bib_scan.proofs.value.split_value.Goals as goal

pub loop-next-preserved : goal.loop-next-preserved
loop-next-preserved c = leads_on name_limit _ _ _ _ c.loop-next.invariant c.in-Some.ensures.shorter c.in_ok-later.ensures.shorter c.in-Some.ensures.read c.in_ok-later.ensures.read

pub loop-next-smaller : goal.loop-next-smaller
loop-next-smaller c = omega (arith, c.in-Some.ensures.shorter, c.in_ok-later.ensures.shorter)

pub returns-in_err-later-clause-read : goal.returns-in_err-later-clause-read
returns-in_err-later-clause-read c =
    let p = err_from_is_err_and c.from_residual-in_err-later.result c.from_residual-in_err-later.ensures.1 in
    rw (p.1, p.2) (value_fault name_limit _ _ _ _ c.loop-next.invariant c.in-Some.ensures.shorter c.in-Some.ensures.read c.in_err-later.ensures.read)

pub returns-clause-read : goal.returns-clause-read
returns-clause-read c = rw c.split_at.ensures.front (value_end name_limit _ _ c.loop-next.invariant c.in_default.ensures.read)
