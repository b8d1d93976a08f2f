use Rattle.std.proofs.Common.{◌≡◌, ◌||◌, Bool, true, false, not, refl, sym, ◌∙◌}
use Rattle.std.proofs.lemmas.Bool.{false≢true, cond-true, cond-false}
use Rattle.merge_spec.specs.ThreeWay.{Ours, Theirs, Gone, Both, are_both, may_become}
use Rattle.merge_spec.specs.Merged.{is_removed_and_named}
use Rattle.bib_places.proofs.plain.first_that_may.Goals as goal

-- where nothing else may come, both may stay
none_may : (ours theirs gone : Bool) → ours ≡ false → theirs ≡ false → gone ≡ false → not ((ours || theirs) || gone) ≡ true
none_may false false false o t g = refl
none_may true theirs gone o t g = absurd (false≢true (sym o))
none_may false true gone o t g = absurd (false≢true (sym t))
none_may false false true o t g = absurd (false≢true (sym g))

pub returns-then-branch : goal.returns-then-branch
returns-then-branch g c rb reads_b ro reads_o rt reads_t labels counts b o t see_b see_o see_t =
    cond-true (is_removed_and_named labels b o t) (are_both Both) (may_become b o t Both)
    (sym (c.in_ok-is_removed_and_named.ensures labels counts rb ro rt b o t see_b see_o see_t) ∙ c.if-branch.true)

pub returns-then-branch-2 : goal.returns-then-branch-2
returns-then-branch-2 g c rb reads_b ro reads_o rt reads_t labels counts b o t see_b see_o see_t =
    cond-false (is_removed_and_named labels b o t) (are_both Ours) (may_become b o t Ours)
    (sym (c.in_ok-is_removed_and_named.ensures labels counts rb ro rt b o t see_b see_o see_t) ∙ c.if-branch.false)
    ∙ (sym (c.in_ok-may_be_ours.ensures rb reads_b ro reads_o rt reads_t b o t see_b see_o see_t) ∙ c.if-branch-2.true)

pub returns-then-may_be_theirs : goal.returns-then-may_be_theirs
returns-then-may_be_theirs g c rb reads_b ro reads_o rt reads_t labels counts b o t see_b see_o see_t =
    cond-false (is_removed_and_named labels b o t) (are_both Theirs) (may_become b o t Theirs)
    (sym (c.in_ok-is_removed_and_named.ensures labels counts rb ro rt b o t see_b see_o see_t) ∙ c.if-branch.false)
    ∙ (sym (c.may_be_theirs.ensures rb ro rt b o t see_b see_o see_t) ∙ c.if-may_be_theirs.true)

pub returns-then-branch-3 : goal.returns-then-branch-3
returns-then-branch-3 g c rb reads_b ro reads_o rt reads_t labels counts b o t see_b see_o see_t =
    cond-false (is_removed_and_named labels b o t) (are_both Gone) (may_become b o t Gone)
    (sym (c.in_ok-is_removed_and_named.ensures labels counts rb ro rt b o t see_b see_o see_t) ∙ c.if-branch.false)
    ∙ (sym (c.in_ok-may_go.ensures rb reads_b ro reads_o rt reads_t b o t see_b see_o see_t) ∙ c.if-branch-3.true)

pub returns : goal.returns
returns g c rb reads_b ro reads_o rt reads_t labels counts b o t see_b see_o see_t =
    cond-false (is_removed_and_named labels b o t) (are_both Both) (may_become b o t Both)
    (sym (c.in_ok-is_removed_and_named.ensures labels counts rb ro rt b o t see_b see_o see_t) ∙ c.if-branch.false)
    ∙ none_may (may_become b o t Ours) (may_become b o t Theirs) (may_become b o t Gone)
    (sym (c.in_ok-may_be_ours.ensures rb reads_b ro reads_o rt reads_t b o t see_b see_o see_t) ∙ c.if-branch-2.false)
    (sym (c.may_be_theirs.ensures rb ro rt b o t see_b see_o see_t) ∙ c.if-may_be_theirs.false)
    (sym (c.in_ok-may_go.ensures rb reads_b ro reads_o rt reads_t b o t see_b see_o see_t) ∙ c.if-branch-3.false)
