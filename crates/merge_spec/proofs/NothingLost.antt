-- No unit of a side is lost in a merge.
use Rattle.std.proofs.Common.{◌≡◌, ◌<◌, ◌≤◌, ◌+◌, ℕ, zero, suc, Bool, true, false, cond, ◌&&◌, ◌||◌, List, [], ◌∷◌, Option, None, Some, is_none, map, length, slice_get, count_by, refl, sym, ◌∙◌, ap, subst, arith, ⊎_elim, ◌⊎◌, inl, inr}
use Rattle.std.specs.List.{list_all, list_any, range_with_len}
use Rattle.std.proofs.lemmas.Bool.{cases_Bool, cond-true, cond-false, and_parts, and_from, or_cases, true≢false, eqb-true, cases_order}
use Rattle.std.proofs.lemmas.List.Sums.{sum_by-cons}
use Rattle.merge_spec.specs.Units.{Unit, Label}
use Rattle.merge_spec.specs.ThreeWay.{Outcome, Ours, Theirs, Mixed, Gone, Both, are_both, may_become}
use Rattle.merge_spec.specs.Merged.{Place, unit_at, is_number, are_once, may_come, is_removed_and_named, is_settled}
use Rattle.merge_spec.specs.Laws.{is_ours_kept, is_theirs_kept, nothing_of_ours_is_lost, nothing_of_theirs_is_lost}

-- a test that all numbers of a range pass
in_range : (test : ℕ → Bool) (from count n : ℕ) → list_all test (range_with_len from count) ≡ true → from ≤ n → n < from + count → test n ≡ true
in_range test from zero n all low high = absurd (none from low high)
  where
    none : (a : ℕ) → a ≤ n → n < a + 0 → ⊥
    none a = omega arith
in_range test from (suc count) n all low high =
    ⊎_elim (λ e. subst (λ k. test k ≡ true) e (and_parts _ _ all).0)
    (λ r. ⊎_elim (λ less. in_range test (from + 1) count n (and_parts _ _ all).1 (next from less) (shift from count high)) (λ more. absurd (past from low more)) r)
    (cases_order from n)
  where
    next : (a : ℕ) → a < n → a + 1 ≤ n
    next a = omega arith

    past : (a : ℕ) → a ≤ n → n < a → ⊥
    past a = omega arith

    shift : (a b : ℕ) → n < a + suc b → n < (a + 1) + b
    shift a b = omega arith

-- what is counted is there
counted_any : {X : Type 0} (test : X → Bool) (xs : List X) → 0 < count_by test xs → list_any test xs ≡ true
counted_any test [] h = absurd (zero_less h)
  where
    zero_less : 0 < 0 → ⊥
    zero_less = omega arith
counted_any test (x ∷ xs) h =
    ⊎_elim (λ e. ap (λ b. b || list_any test xs) e)
    (λ e. ap (λ b. b || list_any test xs) e ∙ counted_any test xs (subst (λ k. 0 < k) (sum_by-cons (λ y. cond (test y) 1 0) x xs ∙ ap (λ b. cond b 1 0 + count_by test xs) e ∙ drop_zero (count_by test xs)) h))
    (cases_Bool (test x))
  where
    drop_zero : (a : ℕ) → 0 + a ≡ a
    drop_zero a = omega arith

list_any-map : {X Y : Type 0} (test : Y → Bool) (f : X → Y) (xs : List X) → list_any test (map f xs) ≡ list_any (λ x. test (f x)) xs
list_any-map test f [] = refl
list_any-map test f (x ∷ xs) = ap (λ b. test (f x) || b) (list_any-map test f xs)

-- an element that passes the first test, while all pass the second
any_and_all : {X : Type 0} (first second both : X → Bool) → ((x : X) → first x ≡ true → second x ≡ true → both x ≡ true) →
    (xs : List X) → list_any first xs ≡ true → list_all second xs ≡ true → list_any both xs ≡ true
any_and_all first second both gives [] any all = absurd (true≢false (sym any))
any_and_all first second both gives (x ∷ xs) any all =
    let parts = and_parts _ _ all in
    ⊎_elim (λ here. ap (λ b. b || list_any both xs) (gives x here parts.0))
    (λ there. ap (λ b. both x || b) (any_and_all first second both gives xs there parts.1) ∙ or_true (both x))
    (or_cases _ _ any)
  where
    or_true : (b : Bool) → (b || true) ≡ true
    or_true true = refl
    or_true false = refl

-- a number that is once among the numbers of places is that of a place
at_a_place : (count n : ℕ) (side : Place → Option ℕ) (places : List Place) → are_once count (map side places) ≡ true → n < count →
    list_any (λ p. is_number n (side p)) places ≡ true
at_a_place count n side places once h =
    sym (list_any-map (is_number n) side places)
    ∙ counted_any (is_number n) (map side places) (subst (λ k. 0 < k) (sym (eqb-true _ _ (in_range _ 0 count n once (least n) (within n count h)))) one)
  where
    least : (a : ℕ) → 0 ≤ a
    least a = omega arith

    within : (a b : ℕ) → a < b → a < 0 + b
    within a b = omega arith

    one : 0 < 1
    one = omega arith

-- there is a unit with a number that is below the count
unit_there : (units : List Unit) (n : ℕ) (number : Option ℕ) → n < length units → is_number n number ≡ true → is_none (unit_at units number) ≡ false
unit_there units n None h is = absurd (true≢false (sym is))
unit_there units n (Some m) h is =
    subst (λ k. is_none (slice_get units k) ≡ false) (sym (eqb-true m n is)) (there units n h)
  where
    there : (us : List Unit) (k : ℕ) → k < length us → is_none (slice_get us k) ≡ false
    there [] k lt = absurd (none k lt)
      where
        none : (a : ℕ) → a < 0 → ⊥
        none a = omega arith
    there (u ∷ us) zero lt = refl
    there (u ∷ us) (suc k) lt = there us k (less k (length us) lt)
      where
        less : (a b : ℕ) → suc a < suc b → a < b
        less a b = omega arith

-- ---- one place

ours_kept : (b o t : Option Unit) (outcome : Outcome) → is_none o ≡ false → may_become b o t outcome ≡ true → is_ours_kept b o t outcome ≡ true
ours_kept b None t outcome there may = absurd (true≢false there)
ours_kept b (Some o) t Ours there may = refl
ours_kept b (Some o) t (Mixed kind key space rows) there may = refl
ours_kept b (Some o) t Both there may = refl
ours_kept b (Some o) t Theirs there may = (and_parts _ _ may).1
ours_kept b (Some o) t Gone there may = ⊎_elim (λ e. e) (λ e. absurd (true≢false (sym e))) (or_cases _ _ may)

theirs_kept : (b o t : Option Unit) (outcome : Outcome) → is_none t ≡ false → may_become b o t outcome ≡ true → is_theirs_kept b o t outcome ≡ true
theirs_kept b o None outcome there may = absurd (true≢false there)
theirs_kept b o (Some t) Theirs there may = refl
theirs_kept b o (Some t) (Mixed kind key space rows) there may = refl
theirs_kept b o (Some t) Both there may = refl
theirs_kept b o (Some t) Ours there may = (and_parts _ _ may).1
theirs_kept b o (Some t) Gone there may =
    ⊎_elim (λ e. ⊎_elim (λ f. f) (λ f. absurd (true≢false (sym f))) (or_cases _ _ e)) (λ e. absurd (true≢false (sym (sym (and_false (is_none o)) ∙ e)))) (or_cases _ _ may)
  where
    and_false : (x : Bool) → (x && false) ≡ false
    and_false true = refl
    and_false false = refl

-- of two versions that stay, each is kept
both_ours : (b o t : Option Unit) (outcome : Outcome) → are_both outcome ≡ true → is_ours_kept b o t outcome ≡ true
both_ours b o t Ours both = absurd (true≢false (sym both))
both_ours b o t Theirs both = absurd (true≢false (sym both))
both_ours b o t (Mixed kind key space rows) both = absurd (true≢false (sym both))
both_ours b o t Gone both = absurd (true≢false (sym both))
both_ours b o t Both both = refl

both_theirs : (b o t : Option Unit) (outcome : Outcome) → are_both outcome ≡ true → is_theirs_kept b o t outcome ≡ true
both_theirs b o t Ours both = absurd (true≢false (sym both))
both_theirs b o t Theirs both = absurd (true≢false (sym both))
both_theirs b o t (Mixed kind key space rows) both = absurd (true≢false (sym both))
both_theirs b o t Gone both = absurd (true≢false (sym both))
both_theirs b o t Both both = refl

-- what may come of units: both versions stay, or what may become of them
come : (given : List Label) (b o t : Option Unit) (outcome : Outcome) → may_come given b o t outcome ≡ true → (are_both outcome ≡ true) ⊎ (may_become b o t outcome ≡ true)
come given b o t outcome may =
    ⊎_elim (λ e. inl (sym (cond-true (is_removed_and_named given b o t) (are_both outcome) (may_become b o t outcome) e) ∙ may))
    (λ e. inr (sym (cond-false (is_removed_and_named given b o t) (are_both outcome) (may_become b o t outcome) e) ∙ may))
    (cases_Bool (is_removed_and_named given b o t))

-- what becomes of the units of a settled place is what may
settled_may : (given : List Label) (base ours theirs : List Unit) (p : Place) → is_settled given base ours theirs p ≡ true →
    may_come given (unit_at base p.base) (unit_at ours p.ours) (unit_at theirs p.theirs) p.outcome ≡ true
settled_may given base ours theirs p settled = (and_parts _ _ (and_parts _ _ settled).0).1

our_unit_kept : (given : List Label) (b o t : Option Unit) (outcome : Outcome) → is_none o ≡ false → may_come given b o t outcome ≡ true → is_ours_kept b o t outcome ≡ true
our_unit_kept given b o t outcome there may = ⊎_elim (both_ours b o t outcome) (ours_kept b o t outcome there) (come given b o t outcome may)

their_unit_kept : (given : List Label) (b o t : Option Unit) (outcome : Outcome) → is_none t ≡ false → may_come given b o t outcome ≡ true → is_theirs_kept b o t outcome ≡ true
their_unit_kept given b o t outcome there may = ⊎_elim (both_theirs b o t outcome) (theirs_kept b o t outcome there) (come given b o t outcome may)

pub nothing-of_ours_is_lost : nothing_of_ours_is_lost
nothing-of_ours_is_lost given base ours theirs places merge n h =
    let parts = and_parts _ _ merge in
    let settled = and_parts _ _ parts.0 in
    let once = and_parts _ _ settled.0 in
    any_and_all (λ p. is_number n p.ours) (is_settled given base ours theirs) _
    (λ p at is. and_from _ _ at (our_unit_kept given (unit_at base p.base) (unit_at ours p.ours) (unit_at theirs p.theirs) p.outcome (unit_there ours n p.ours h at) (settled_may given base ours theirs p is)))
    places (at_a_place (length ours) n (λ p. p.ours) places (and_parts _ _ once.0).1 h) settled.1

pub nothing-of_theirs_is_lost : nothing_of_theirs_is_lost
nothing-of_theirs_is_lost given base ours theirs places merge n h =
    let parts = and_parts _ _ merge in
    let settled = and_parts _ _ parts.0 in
    let once = and_parts _ _ settled.0 in
    any_and_all (λ p. is_number n p.theirs) (is_settled given base ours theirs) _
    (λ p at is. and_from _ _ at (their_unit_kept given (unit_at base p.base) (unit_at ours p.ours) (unit_at theirs p.theirs) p.outcome (unit_there theirs n p.theirs h at) (settled_may given base ours theirs p is)))
    places (at_a_place (length theirs) n (λ p. p.theirs) places once.1 h) settled.1
