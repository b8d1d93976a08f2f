-- Definitions in the order of their labels, when one comes or goes.
use Rattle.bib_definitions.proofs.Words.{◌≡◌, ℕ, zero, suc, ◌<◌, ◌≤◌, nat_lt, Bool, true, false, cond, List, [], ◌∷◌, ◌++◌, length, get_or, insert, remove, ⊎_elim, refl, sym, ◌∙◌, ap, subst, arith, All, AllByRecursion, IsPartitionPoint, cases_lt, cond-true, cond-false, lt-ltb, le-ltb, Definition}
use Rattle.bib_definitions.proofs.Words.{with_definition, without_label, Ascends}
use Rattle.std.proofs.Common.{nat_eq}
use Rattle.std.proofs.lemmas.Bool.{ltb-true, ltb-false, eq-eqb, ne_eqb}

-- ---- one by one

pub all_by_recursion : (P : Definition → Type 0) (ds : List Definition) → All P ds → AllByRecursion P ds
all_by_recursion P [] all = tt
all_by_recursion P (d ∷ ds) all = (all 0 d (omega arith), all_by_recursion P ds (λ k e lt. all (suc k) e (omega (arith, lt))))

pub all_by_place : (P : Definition → Type 0) (ds : List Definition) → AllByRecursion P ds → All P ds
all_by_place P [] all k e lt = absurd (omega (arith, lt))
all_by_place P (d ∷ ds) all zero e lt = all.0
all_by_place P (d ∷ ds) all (suc k) e lt = all_by_place P ds all.1 k e (omega (arith, lt))

-- what holds of the definitions and of the new one holds of them together
pub all_with : (P : Definition → Type 0) (new : Definition) (ds : List Definition) → P new → AllByRecursion P ds → AllByRecursion P (with_definition new ds)
all_with P new [] it all = (it, tt)
all_with P new (d ∷ ds) it all = either (nat_lt d.label new.label) (all_with P new ds it all.1)
  where
    either : (b : Bool) → AllByRecursion P (with_definition new ds) → AllByRecursion P (cond b (d ∷ with_definition new ds) (new ∷ d ∷ ds))
    either true more = (all.0, more)
    either false more = (it, all)

pub all_without : (P : Definition → Type 0) (l : ℕ) (ds : List Definition) → AllByRecursion P ds → AllByRecursion P (without_label l ds)
all_without P l [] all = tt
all_without P l (d ∷ ds) all = either (nat_eq d.label l) (all_without P l ds all.1)
  where
    either : (b : Bool) → AllByRecursion P (without_label l ds) → AllByRecursion P (cond b ds (d ∷ without_label l ds))
    either true more = all.1
    either false more = (all.0, more)

-- ---- their order

ascends_first : (d : Definition) (ds : List Definition) → AllByRecursion (λ e. d.label ≤ e.label) ds → Ascends ds → Ascends (d ∷ ds)
ascends_first d ds least ascend zero zero e le lt = omega arith
ascends_first d ds least ascend zero (suc j) e le lt = all_by_place (λ e. d.label ≤ e.label) ds least j e (omega (arith, lt))
ascends_first d ds least ascend (suc i) zero e le lt = absurd (omega (arith, le))
ascends_first d ds least ascend (suc i) (suc j) e le lt = ascend i j e (omega (arith, le)) (omega (arith, lt))

ascends_rest : (d : Definition) (ds : List Definition) → Ascends (d ∷ ds) → Ascends ds
ascends_rest d ds ascend i j e le lt = ascend (suc i) (suc j) e (omega (arith, le)) (omega (arith, lt))

least_first : (d : Definition) (ds : List Definition) → Ascends (d ∷ ds) → AllByRecursion (λ e. d.label ≤ e.label) ds
least_first d ds ascend = all_by_recursion (λ e. d.label ≤ e.label) ds (λ k e lt. ascend 0 (suc k) e (omega arith) (omega (arith, lt)))

more_least : (k l : ℕ) (ds : List Definition) → k ≤ l → AllByRecursion (λ e. l ≤ e.label) ds → AllByRecursion (λ e. k ≤ e.label) ds
more_least k l [] le all = tt
more_least k l (d ∷ ds) le all = (let low = all.0 in omega (arith, le, low), more_least k l ds le all.1)

pub none_ascend : (ds : List Definition) → ds ≡ [] → Ascends ds
none_ascend ds none = subst Ascends (sym none) (λ i j e le lt. absurd (omega (arith, lt)))

pub ascends_with : (new : Definition) (ds : List Definition) → Ascends ds → Ascends (with_definition new ds)
ascends_with new [] ascend = ascends_first new [] tt (λ i j e le lt. absurd (omega (arith, lt)))
ascends_with new (d ∷ ds) ascend = either (nat_lt d.label new.label) refl (ascends_with new ds (ascends_rest d ds ascend))
  where
    either : (b : Bool) → nat_lt d.label new.label ≡ b → Ascends (with_definition new ds) → Ascends (cond b (d ∷ with_definition new ds) (new ∷ d ∷ ds))
    either true t more =
        let low = ltb-true d.label new.label t in
        ascends_first d (with_definition new ds) (all_with (λ e. d.label ≤ e.label) new ds (omega (arith, low)) (least_first d ds ascend)) more
    either false t more =
        let high : new.label ≤ d.label = ltb-false d.label new.label t in
        ascends_first new (d ∷ ds) (high, more_least new.label d.label ds high (least_first d ds ascend)) ascend

pub ascends_without : (l : ℕ) (ds : List Definition) → Ascends ds → Ascends (without_label l ds)
ascends_without l [] ascend = ascend
ascends_without l (d ∷ ds) ascend = either (nat_eq d.label l) (ascends_without l ds (ascends_rest d ds ascend))
  where
    either : (b : Bool) → Ascends (without_label l ds) → Ascends (cond b ds (d ∷ without_label l ds))
    either true more = ascends_rest d ds ascend
    either false more = ascends_first d (without_label l ds) (all_without (λ e. d.label ≤ e.label) l ds (least_first d ds ascend)) more

-- ---- where one comes or goes

module _ (l : ℕ) where
  -- a definition comes after those with a label below its own
  pub with_at : (new : Definition) (ds : List Definition) (k : ℕ) → new.label ≡ l → k ≤ length ds → IsPartitionPoint (λ (d : Definition). nat_lt d.label l ≡ true) (λ (d : Definition). nat_lt d.label l ≡ false) ds k
      → insert ds k new ≡ with_definition new ds
  with_at new [] zero is le at = refl
  with_at new [] (suc k) is le at = absurd (omega (arith, le))
  with_at new (d ∷ ds) zero is le at =
      sym (cond-false (nat_lt d.label new.label) (d ∷ with_definition new ds) (new ∷ d ∷ ds) (ap (nat_lt d.label) is ∙ at.1 0 d (omega arith) (omega arith)))
  with_at new (d ∷ ds) (suc k) is le at =
      ap (λ (rest : List Definition). d ∷ rest) (with_at new ds k is (omega (arith, le)) (λ i e low high. at.0 (suc i) e (omega arith) (omega (arith, high)), λ i e low high. at.1 (suc i) e (omega (arith, low)) (omega (arith, high))))
      ∙ sym (cond-true (nat_lt d.label new.label) (d ∷ with_definition new ds) (new ∷ d ∷ ds) (ap (nat_lt d.label) is ∙ at.0 0 d (omega arith) (omega arith)))

  below_other : (m : ℕ) → nat_lt m l ≡ true → nat_eq m l ≡ false
  below_other m t = let low = ltb-true m l t in ne_eqb m l (λ e. omega (arith, low, e))

  -- the definition with this label comes after those with a label below it
  pub without_at : (ds : List Definition) (k : ℕ) (e : Definition) → k < length ds → IsPartitionPoint (λ (d : Definition). nat_lt d.label l ≡ true) (λ (d : Definition). nat_lt d.label l ≡ false) ds k
      → (get_or ds k e).label ≡ l → remove ds k ≡ without_label l ds
  without_at [] k e lt at is = absurd (omega (arith, lt))
  without_at (d ∷ ds) zero e lt at is = sym (cond-true (nat_eq d.label l) ds (d ∷ without_label l ds) (eq-eqb d.label l is))
  without_at (d ∷ ds) (suc k) e lt at is =
      ap (λ (rest : List Definition). d ∷ rest) (without_at ds k e (omega (arith, lt)) (λ i e low high. at.0 (suc i) e (omega arith) (omega (arith, high)), λ i e low high. at.1 (suc i) e (omega (arith, low)) (omega (arith, high))) is)
      ∙ sym (cond-false (nat_eq d.label l) ds (d ∷ without_label l ds) (below_other d.label (at.0 0 d (omega arith) (omega arith))))

  -- if no definition has the label, all stay
  without_absent : (ds : List Definition) → AllByRecursion (λ d. nat_eq d.label l ≡ false) ds → without_label l ds ≡ ds
  without_absent [] absent = refl
  without_absent (d ∷ ds) absent = cond-false (nat_eq d.label l) ds (d ∷ without_label l ds) absent.0 ∙ ap (λ (rest : List Definition). d ∷ rest) (without_absent ds absent.1)

  pub without_none : (ds : List Definition) (k : ℕ) → Ascends ds → IsPartitionPoint (λ (d : Definition). nat_lt d.label l ≡ true) (λ (d : Definition). nat_lt d.label l ≡ false) ds k
      → ((e : Definition) → k < length ds → (get_or ds k e).label ≡ l → ⊥) → without_label l ds ≡ ds
  without_none ds k ascend at differs = without_absent ds (all_by_recursion (λ d. nat_eq d.label l ≡ false) ds (λ j e lt. ⊎_elim
      (λ (before : j < k). below_other (get_or ds j e).label (at.0 j e (omega arith) before))
      (λ (after : k ≤ j).
      let inside : k < length ds = omega (arith, after, lt) in
      let least : l ≤ (get_or ds k e).label = ltb-false (get_or ds k e).label l (at.1 k e (omega arith) inside) in
      let order : (get_or ds k e).label ≤ (get_or ds j e).label = ascend k j e after lt in
      ne_eqb (get_or ds j e).label l (λ is. differs e inside (omega (arith, least, order, is))))
      (cases_lt j k)))

-- ---- among others

-- after definitions with a label below its own, and before those with one above it
pub with_parts : (new : Definition) (front rest : List Definition) → AllByRecursion (λ d. d.label < new.label) front → AllByRecursion (λ d. new.label < d.label) rest → with_definition new (front ++ rest) ≡ front ++ new ∷ rest
with_parts new [] [] below above = refl
with_parts new [] (d ∷ rest) below above = cond-false (nat_lt d.label new.label) (d ∷ with_definition new rest) (new ∷ d ∷ rest) (le-ltb d.label new.label (let high = above.0 in omega (arith, high)))
with_parts new (d ∷ front) rest below above =
    cond-true (nat_lt d.label new.label) (d ∷ with_definition new (front ++ rest)) (new ∷ d ∷ front ++ rest) (lt-ltb d.label new.label below.0)
    ∙ ap (λ (ds : List Definition). d ∷ ds) (with_parts new front rest below.1 above)

pub without_parts : (d : Definition) (front rest : List Definition) → AllByRecursion (λ e. e.label < d.label) front → without_label d.label (front ++ d ∷ rest) ≡ front ++ rest
without_parts d [] rest below = cond-true (nat_eq d.label d.label) rest (d ∷ without_label d.label rest) (eq-eqb d.label d.label refl)
without_parts d (e ∷ front) rest below =
    cond-false (nat_eq e.label d.label) (front ++ d ∷ rest) (e ∷ without_label d.label (front ++ d ∷ rest)) (ne_eqb e.label d.label (λ is. let low = below.0 in omega (arith, low, is)))
    ∙ ap (λ (ds : List Definition). e ∷ ds) (without_parts d front rest below.1)
