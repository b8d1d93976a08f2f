use Rattle.bib_edit.proofs.Words.{true, false, refl, sym, subst, inl, drop_of_length-le, IsAnyLong, AllHaveValues, AreAnyLong, next-read}
use Rattle.bib_edit.proofs.ManyEntries.{any_long-more}
use Rattle.bib_edit.proofs.new_entries.are_any_long.Goals as goal

pub returns-then-branch-clause-long : goal.returns-then-branch-clause-long
returns-then-branch-clause-long g c db reads =
    let next = next-read c.args.entries.now c.entries.entry-index c.entry-item.result c.entries-test.true c.entry-item.is in
    let here = subst (λ b. IsAnyLong b db c.args.n c.as_slice.result.now) c.if-branch.true (c.in_ok-is_any_long.ensures.long db reads) in
    c.entries.invariant.1 db reads true (subst (AreAnyLong true db c.args.n) (sym next) (inl (subst (IsAnyLong true db c.args.n) c.as_slice.ensures here)))

pub entries-preserved : goal.entries-preserved
entries-preserved g c =
    let next = next-read c.args.entries.now c.entries.entry-index c.entry-item.result c.entries-test.true c.entry-item.is in (
      (subst AllHaveValues next c.entries.invariant.0).1,
      λ db reads long h.
          let here = subst (λ b. IsAnyLong b db c.args.n c.as_slice.result.now) c.if-branch.false (c.in_ok-is_any_long.ensures.long db reads) in
          c.entries.invariant.1 db reads long (subst (AreAnyLong long db c.args.n) (sym next)
          (any_long-more db c.args.n c.entry-item.result _ (subst (IsAnyLong false db c.args.n) c.as_slice.ensures here) long h)),
    )

pub returns-clause-long : goal.returns-clause-long
returns-clause-long g c db reads =
    c.entries.invariant.1 db reads false (subst (AreAnyLong false db c.args.n) (sym (drop_of_length-le c.args.entries.now c.entries-test.false)) refl)
