use Rattle.std.proofs.Common.{◌∙◌, sym, arith}
use Rattle.bib_spec.specs.Records.{entries_of}
use Rattle.bib_diff.specs.Agreeing.{SameAt}
use Rattle.bib_diff.proofs.EntryPairs.{agree_at_each, agree_there, agree_in_count, up_to_more}
use Rattle.bib_diff.proofs.agreeing.first_difference.Goals as goal

pub returns-then-not-branch-clause-differ : goal.returns-then-not-branch-clause-differ
returns-then-not-branch-clause-differ c = λ agree.
    c.in_ok-is_same_at.ensures.other c.if-not-branch.true
    (λ db reads x there db' reads' y there'. agree_there (entries_of db) (entries_of db') c.entries.n (agree db db' reads reads') x there y there')

pub entries-preserved : goal.entries-preserved
entries-preserved c = up_to_more (λ k. SameAt k c.args.old.now c.args.new.now) c.entries.n c.entries.invariant (c.in_ok-is_same_at.ensures.same c.if-not-branch.false)

pub returns-then-entry_count-clause-agree : goal.returns-then-entry_count-clause-agree
returns-then-entry_count-clause-agree c = λ a b reads reads'.
    let old_len = c.entry_count-3.ensures a reads in
    let new_len = c.entry_count-4.ensures b reads' in
    let old_count = c.entry_count.ensures a reads in
    let new_count = c.entry_count-2.ensures b reads' in
    let least = c.min-count.ensures in
    let past = c.entries-test.false in
    let equal = c.if-entry_count.true in
    agree_at_each (entries_of a) (entries_of b) (sym old_len ∙ equal ∙ new_len)
    (λ n lt x there y there'. c.entries.invariant n (omega (arith, lt, old_len, new_len, old_count, new_count, least, past, equal)) a reads x there b reads' y there')

pub returns-else-entry_count-clause-differ : goal.returns-else-entry_count-clause-differ
returns-else-entry_count-clause-differ c = λ agree.
    let a = c.opens.ensures.0 in
    let reads = c.opens.ensures.1.reads in
    let b = c.opens-2.ensures.0 in
    let reads' = c.opens-2.ensures.1.reads in
    c.if-entry_count.false (c.entry_count-3.ensures a reads ∙ agree_in_count (entries_of a) (entries_of b) (agree a b reads reads') ∙ sym (c.entry_count-4.ensures b reads'))
