use Rattle.std.proofs.Common.{arith}
use Rattle.std.proofs.lemmas.Result.{err_from_is_err_and}
use Rattle.bib_faults.specs.Told.{too_long}
use Rattle.bib_faults.proofs.ReadingSteps.{next_less, read_more, read_done, unlisted_memory}
use Rattle.bib_faults.proofs.reading_on.read_all.Goals as goal

pub returns-then-bytes-gt-FILE_LIMIT-clause-unlisted : goal.returns-then-bytes-gt-FILE_LIMIT-clause-unlisted
returns-then-bytes-gt-FILE_LIMIT-clause-unlisted c = too_long c.if-bytes-gt-FILE_LIMIT.true

pub returns-in_err-fault-clause-unlisted : goal.returns-in_err-fault-clause-unlisted
returns-in_err-fault-clause-unlisted c =
    let p = err_from_is_err_and c.from_residual.result c.from_residual.ensures.1 in
    rw (p.1, p.2) (unlisted_memory c.args.bytes.now c.in_err-fault.field-0.0 (omega (arith, c.if-bytes-gt-FILE_LIMIT.false)) c.in_err-fault.ensures.memory)

pub returns-in_err-keep-clause-unlisted : goal.returns-in_err-keep-clause-unlisted
returns-in_err-keep-clause-unlisted c =
    let p = err_from_is_err_and c.from_residual-in_err-keep.result c.from_residual-in_err-keep.ensures.1 in
    rw (p.1, p.2) (unlisted_memory c.args.bytes.now c.in_err-keep.field-0.0 (omega (arith, c.if-bytes-gt-FILE_LIMIT.false)) c.in_err-keep.ensures.memory)

pub read-smaller : goal.read-smaller
read-smaller c =
    let first = rw c.in-Some.is at c.in_ok-fault.ensures.first in
    rw c.split_at.ensures.back (next_less c.read.rest.now c.in-Some.fault first)

pub read-preserved : goal.read-preserved
read-preserved c =
    let first = rw c.in-Some.is at c.in_ok-fault.ensures.first in
    rw (c.split_at.ensures.back, c.in_ok-keep.ensures.kept) (read_more c.args.bytes.now c.read.rest.now c.read.faults.items c.in-Some.fault c.read.invariant first)

pub returns-clause-faults : goal.returns-clause-faults
returns-clause-faults c =
    rw c.from_vec.ensures (read_done c.args.bytes.now c.read.rest.now c.read.faults.items c.read.invariant (c.in_ok-fault.ensures.none c.in_default.is))
