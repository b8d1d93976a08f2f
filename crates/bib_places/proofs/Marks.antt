-- Numbers that are marked once each.
use Rattle.std.proofs.Common.{◌≡◌, ℕ, zero, suc, ◌+◌, ◌<◌, ◌≤◌, ◌==◌, Bool, true, false, cond, List, [], ◌∷◌, ◌++◌, Option, None, Some, length, take, set, replicate, get_or, map, count_by, refl, sym, ◌∙◌, ap, ap₂, arith, ⊎_elim}
use Rattle.std.specs.List.{list_all, range_with_len}
use Rattle.std.proofs.lemmas.Bool.{cases_Bool, and_parts, and_from, true≢false, eqb-true, eq-eqb}
use Rattle.std.proofs.lemmas.List.{take_more, take_all, get_or-set_same, get_or-set_other, length-set}
use Rattle.std.proofs.lemmas.List.Sums.{sum_by-append, sum_by-cons}
use Rattle.merge_spec.specs.Merged.{is_number, are_once}

-- of the places before place k, one has each marked number, and none has another number
pub record IsMarkedTo {P : Type 0} (number : P → Option ℕ) (places : List P) (count k : ℕ) (marks : List Bool) : Type 0 where
  pub len : length marks ≡ count
  pub counts : (n : ℕ) → n < count → count_by (is_number n) (map number (take k places)) ≡ cond (get_or marks n true) 1 0

map-snoc : {A B : Type 0} (f : A → B) (xs : List A) (x : A) → map f (xs ++ x ∷ []) ≡ map f xs ++ f x ∷ []
map-snoc f [] x = refl
map-snoc f (y ∷ xs) x = ap (λ l. f y ∷ l) (map-snoc f xs x)

count-snoc : (n : ℕ) (numbers : List (Option ℕ)) (x : Option ℕ) → count_by (is_number n) (numbers ++ x ∷ []) ≡ count_by (is_number n) numbers + cond (is_number n x) 1 0
count-snoc n numbers x =
    sum_by-append (λ y. cond (is_number n y) 1 0) numbers (x ∷ [])
    ∙ ap (λ k. count_by (is_number n) numbers + k) (sum_by-cons (λ y. cond (is_number n y) 1 0) x [] ∙ add_none (cond (is_number n x) 1 0))
  where
    add_none : (a : ℕ) → a + 0 ≡ a
    add_none a = omega arith

unmarked : (count n : ℕ) → n < count → get_or (replicate count false) n true ≡ false
unmarked zero n lt = absurd (none n lt)
  where
    none : (a : ℕ) → a < 0 → ⊥
    none a = omega arith
unmarked (suc count) zero lt = refl
unmarked (suc count) (suc n) lt = unmarked count n (less n count lt)
  where
    less : (a b : ℕ) → suc a < suc b → a < b
    less a b = omega arith

pub marked-none : {P : Type 0} (number : P → Option ℕ) (places : List P) (count : ℕ) (marks : List Bool) → marks ≡ replicate count false → length marks ≡ count → IsMarkedTo number places count 0 marks
marked-none number places count marks are len = record {
  len = len;
  counts = λ n lt. ap (λ b. cond b 1 0) (sym (ap (λ (l : List Bool). get_or l n true) are ∙ unmarked count n lt));
}

module _ {P : Type 0} (number : P → Option ℕ) (places : List P) (count k : ℕ) (marks : List Bool) (d : P) (here : k < length places) (is : IsMarkedTo number places count k marks) where
  next-count : (n : ℕ) (x : Option ℕ) → x ≡ number (get_or places k d) → count_by (is_number n) (map number (take (k + 1) places)) ≡ count_by (is_number n) (map number (take k places)) + cond (is_number n x) 1 0
  next-count n x at =
      ap (λ l. count_by (is_number n) (map number l)) (take_more places k d here)
      ∙ ap (count_by (is_number n)) (map-snoc number (take k places) (get_or places k d))
      ∙ count-snoc n (map number (take k places)) (number (get_or places k d))
      ∙ ap (λ o. count_by (is_number n) (map number (take k places)) + cond (is_number n o) 1 0) (sym at)

  pub marked-same : None ≡ number (get_or places k d) → IsMarkedTo number places count (k + 1) marks
  marked-same at = record { len = is.len; counts = λ n lt. next-count n None at ∙ add_none (count_by (is_number n) (map number (take k places))) ∙ is.counts n lt }
    where
      add_none : (a : ℕ) → a + 0 ≡ a
      add_none a = omega arith

  pub marked-more : (m : ℕ) → Some m ≡ number (get_or places k d) → m < length marks → get_or marks m true ≡ false → IsMarkedTo number places count (k + 1) (set marks m true)
  marked-more m at within free = record {
    len = length-set marks m true ∙ is.len;
    counts = λ n lt. next-count n (Some m) at ∙ ⊎_elim (λ e. this n lt e) (λ e. other n lt e) (cases_Bool (m == n));
  }
    where
      this : (n : ℕ) → n < count → (m == n) ≡ true → count_by (is_number n) (map number (take k places)) + cond (m == n) 1 0 ≡ cond (get_or (set marks m true) n true) 1 0
      this n lt e =
          let same = eqb-true m n e in
          ap₂ (λ a b. a + cond b 1 0) (is.counts n lt ∙ ap (λ b. cond b 1 0) (ap (λ j. get_or marks j true) (sym same) ∙ free)) e
          ∙ ap (λ b. cond b 1 0) (sym (ap (λ j. get_or (set marks m true) j true) (sym same) ∙ get_or-set_same marks m true true within))

      other : (n : ℕ) → n < count → (m == n) ≡ false → count_by (is_number n) (map number (take k places)) + cond (m == n) 1 0 ≡ cond (get_or (set marks m true) n true) 1 0
      other n lt e =
          ap₂ (λ a b. a + cond b 1 0) (is.counts n lt) e ∙ add_none (cond (get_or marks n true) 1 0)
          ∙ ap (λ b. cond b 1 0) (sym (get_or-set_other marks m n true true (λ same. true≢false (sym (true_eq m) ∙ ap (λ j. m == j) (sym same) ∙ e))))
        where
          add_none : (a : ℕ) → a + 0 ≡ a
          add_none a = omega arith

          true_eq : (a : ℕ) → (a == a) ≡ true
          true_eq a = eq-eqb a a refl

-- a test that holds of each number of a range
pub range-all : (test : ℕ → Bool) (from count : ℕ) → ((n : ℕ) → n < from + count → test n ≡ true) → list_all test (range_with_len from count) ≡ true
range-all test from zero holds = refl
range-all test from (suc count) holds = and_from _ _ (holds from (first from count)) (range-all test (from + 1) count (λ n lt. holds n (shift n from count lt)))
  where
    first : (a b : ℕ) → a < a + suc b
    first a b = omega arith

    shift : (n a b : ℕ) → n < (a + 1) + b → n < a + suc b
    shift n a b = omega arith

-- each of a list of marks
mark-at : (marks : List Bool) (n : ℕ) → list_all (λ mark. mark) marks ≡ true → get_or marks n true ≡ true
mark-at [] n all = refl
mark-at (m ∷ marks) zero all = (and_parts _ _ all).0
mark-at (m ∷ marks) (suc n) all = mark-at marks n (and_parts _ _ all).1

pub marked-all : {P : Type 0} (number : P → Option ℕ) (places : List P) (count k : ℕ) (marks : List Bool) → length places ≤ k → IsMarkedTo number places count k marks → list_all (λ mark. mark) marks ≡ true →
    are_once count (map number places) ≡ true
marked-all number places count k marks past is all =
    range-all (λ n. count_by (is_number n) (map number places) == 1) 0 count
    (λ n lt. ap (λ a. a == 1) (ap (λ l. count_by (is_number n) (map number l)) (sym (take_all k places past)) ∙ is.counts n (within n count lt) ∙ ap (λ b. cond b 1 0) (mark-at marks n all)))
  where
    within : (a b : ℕ) → a < 0 + b → a < b
    within a b = omega arith
