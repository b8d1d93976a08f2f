use Rattle.std.proofs.Common.{◌≡◌, ◌∙◌, ◌||◌, sym, ap, refl, Bool, true, false, not}
use Rattle.std.proofs.lemmas.Bool.{false≢true}
use Rattle.bib_places.proofs.settled.may_be_both.Goals as goal

-- where ours may stay, not both may
ours_stays : (ours theirs gone : Bool) → ours ≡ true → false ≡ not ((ours || theirs) || gone)
ours_stays true theirs gone is = refl
ours_stays false theirs gone is = absurd (false≢true is)

-- where neither may be taken, both may stay unless the unit may go
neither_stays : (ours theirs gone goes : Bool) → ours ≡ false → theirs ≡ false → goes ≡ gone → not goes ≡ not ((ours || theirs) || gone)
neither_stays false false gone goes one other is = ap not is
neither_stays false true gone goes one other is = absurd (false≢true (sym other))
neither_stays true theirs gone goes one other is = absurd (false≢true (sym one))

pub returns-then-branch : goal.returns-then-branch
returns-then-branch g c rb reads_b ro reads_o rt reads_t b o t see_b see_o see_t =
    ours_stays _ _ _ (sym (c.in_ok-may_be_ours.ensures rb reads_b ro reads_o rt reads_t b o t see_b see_o see_t) ∙ c.if-branch.true)

pub returns : goal.returns
returns g c rb reads_b ro reads_o rt reads_t b o t see_b see_o see_t =
    neither_stays _ _ _ _
    (sym (c.in_ok-may_be_ours.ensures rb reads_b ro reads_o rt reads_t b o t see_b see_o see_t) ∙ c.if-branch.false)
    (sym (c.may_be_theirs.ensures rb ro rt b o t see_b see_o see_t) ∙ c.if-may_be_theirs.false)
    (c.in_ok-goes.ensures rb reads_b ro reads_o rt reads_t b o t see_b see_o see_t)
