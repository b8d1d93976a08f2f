use Rattle.std.proofs.Common.{arith}
use Rattle.bibtex_labels.proofs.CommandLemmas.{cut_here, uncut}
use Rattle.bibtex_labels.proofs.purifying.split_at_backslash.Goals as goal

pub returns-then-end-text-clause-none : goal.returns-then-end-text-clause-none
returns-then-end-text-clause-none c = uncut c.args.text.now (let end = c.if-end-text.true in omega (arith, end, c.before_backslash-end.ensures.len))

pub returns-clause-cut : goal.returns-clause-cut
returns-clause-cut c =
    let end = c.if-end-text.false in
    rw (c.split_at-2.ensures.back, c.split_at.ensures.front, c.split_at.ensures.back)
    (cut_here c.before_backslash-end.result c.args.text.now c.before_backslash-end.ensures.len (omega (arith, end, c.before_backslash-end.ensures.within)))
