use Rattle.bib_edit.proofs.Words.{◌↔◌, List, sym, subst, both_ways, false≢true, NewEntry, AllHaveValues, HaveValues, next-read}
use Rattle.bib_edit.proofs.new_entries.have_values.Goals as goal

pub returns-then-not-branch : goal.returns-then-not-branch
returns-then-not-branch c =
    let next = next-read c.args.entries.now c.entries.entry-index c.entry-item.result c.entries-test.true c.entry-item.is in (
      λ h. absurd (false≢true h),
      λ all. absurd (both_ways c.in_ok-are_values.field-0 c.if-not-branch.true (c.in_ok-are_values.ensures.1 (subst HaveValues (sym c.as_slice.ensures) (subst AllHaveValues next (c.entries.invariant.0 all)).0))),
    )

pub entries-preserved : goal.entries-preserved
entries-preserved c =
    let next = next-read c.args.entries.now c.entries.entry-index c.entry-item.result c.entries-test.true c.entry-item.is in
    let so_far = subst (λ (rest : List NewEntry). AllHaveValues c.args.entries.now ↔ AllHaveValues rest) next c.entries.invariant in
    (λ all. (so_far.0 all).1, λ rest. so_far.1 (subst HaveValues c.as_slice.ensures (c.in_ok-are_values.ensures.0 c.if-not-branch.false), rest))
