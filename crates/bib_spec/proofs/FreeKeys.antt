-- If t keys are taken, one of the first t + 1 candidates is free.
use Rattle.std.proofs.Common.{◌≡◌, ◌≢◌, ℕ, zero, suc, ◌+◌, ◌-◌, ◌*◌, ◌<◌, ◌≤◌, ◌==◌, nat_lt, true, false, cond, not, ◌||◌, List, [], ◌∷◌, ◌++◌, Option, Some, length, find, filter, reverse, map, ⊎_elim, refl, sym, ◌∙◌, ap, ap₂, subst, arith, eqb-true, le-ltb}
use Rattle.std.specs.List.{AllByRecursion}
use Rattle.std.proofs.lemmas.List.{append_cancel_left, map-append, reverse-reverse}
use mathlib.Core.List.{reverse-cons}
use Rattle.std.specs.Char.{to_ascii_lowercase}
use Rattle.std.proofs.lemmas.Bool.{eqb-false, cases_Bool, cond-true, cond-false, false_from_ne_true, false≢true, both_ways, or_cases, not_from_true, not_from_false}
use Rattle.bib_spec.specs.Text.{Text, folded, same}
use Rattle.bib_spec.specs.MadeKeys.{next_letters, letters, candidate, candidates, is_taken}
use Rattle.bib_spec.proofs.Names.{same-true, true-same}

-- Lower-case letters, and the number that they write.

abbrev pub AreLower : Text → Type 0
AreLower cs = AllByRecursion (λ c. (97 ≤ c) × (c ≤ 122)) cs

abbrev pub written : Text → ℕ
written [] = 0
written (c ∷ cs) = (c - 96) + 26 * written cs

lower_next : (cs : Text) → AreLower cs → AreLower (next_letters cs)
lower_next [] h = ((omega arith, omega arith), tt)
lower_next (c ∷ cs) h = ⊎_elim
    (λ e. subst AreLower (sym (cond-true (c == 122) (97 ∷ next_letters cs) ((c + 1) ∷ cs) e)) ((omega arith, omega arith), lower_next cs h.1))
    (λ e. subst AreLower (sym (cond-false (c == 122) (97 ∷ next_letters cs) ((c + 1) ∷ cs) e)) (bound c h.0 (eqb-false c 122 e), h.1))
    (cases_Bool (c == 122))
  where
    bound : (c : ℕ) → (97 ≤ c) × (c ≤ 122) → c ≢ 122 → (97 ≤ c + 1) × (c + 1 ≤ 122)
    bound c h ne = let a = h.0 in let b = h.1 in (omega arith, omega arith)

pub lower_letters : (n : ℕ) → AreLower (letters n)
lower_letters zero = tt
lower_letters (suc n) = lower_next (letters n) (lower_letters n)

written-next : (cs : Text) → AreLower cs → written (next_letters cs) ≡ suc (written cs)
written-next [] h = refl
written-next (c ∷ cs) h = ⊎_elim
    (λ e. ap written (cond-true (c == 122) (97 ∷ next_letters cs) ((c + 1) ∷ cs) e) ∙ carried c cs (eqb-true c 122 e) (written-next cs h.1))
    (λ e. ap written (cond-false (c == 122) (97 ∷ next_letters cs) ((c + 1) ∷ cs) e) ∙ counted c (written cs) h.0)
    (cases_Bool (c == 122))
  where
    carried : (c : ℕ) (cs : Text) → c ≡ 122 → written (next_letters cs) ≡ suc (written cs) → (97 - 96) + 26 * written (next_letters cs) ≡ suc ((c - 96) + 26 * written cs)
    carried c cs e h = omega (arith, e, h)

    counted : (c w : ℕ) → (97 ≤ c) × (c ≤ 122) → ((c + 1) - 96) + 26 * w ≡ suc ((c - 96) + 26 * w)
    counted c w h = let a = h.0 in omega arith

pub written-letters : (n : ℕ) → written (letters n) ≡ n
written-letters zero = refl
written-letters (suc n) = written-next (letters n) (lower_letters n) ∙ ap suc (written-letters n)

-- two to the power
abbrev pub doubled : ℕ → ℕ
doubled zero = 1
doubled (suc n) = 2 * doubled n

doubled-some : (n : ℕ) → 1 ≤ doubled n
doubled-some zero = omega arith
doubled-some (suc n) = let le = doubled-some n in omega (arith, le)

pub doubled-grows : (k n : ℕ) → k ≤ n → doubled k ≤ doubled n
doubled-grows zero n le = doubled-some n
doubled-grows (suc k) zero le = absurd (omega (arith, le))
doubled-grows (suc k) (suc n) le = let less = doubled-grows k n (omega (arith, le)) in omega (arith, less)

-- n lower-case letters write a number of at least 2^n - 1
pub doubled-written : (cs : Text) → AreLower cs → doubled (length cs) ≤ suc (written cs)
doubled-written [] h = let le : 1 ≤ 1 = omega arith in le
doubled-written (c ∷ cs) h = more c (doubled (length cs)) (written cs) h.0.0 (doubled-written cs h.1)
  where
    more : (c d w : ℕ) → 97 ≤ c → d ≤ suc w → 2 * d ≤ suc ((c - 96) + 26 * w)
    more c d w low le = omega (arith, low, le)

lower_kept : (cs : Text) → AreLower cs → map to_ascii_lowercase cs ≡ cs
lower_kept [] h = refl
lower_kept (c ∷ cs) h = ap₂ ◌∷◌ (kept c h.0.0) (lower_kept cs h.1)
  where
    kept : (c : ℕ) → 97 ≤ c → to_ascii_lowercase c ≡ c
    kept c h =
        cond-false (nat_lt c 65) c (cond (nat_lt c 91) (c + 32) c) (le-ltb c 65 (omega arith)) ∙ cond-false (nat_lt c 91) (c + 32) c (le-ltb c 91 (omega arith))

map-reverse : (f : ℕ → ℕ) (xs : List ℕ) → map f (reverse xs) ≡ reverse (map f xs)
map-reverse f [] = refl
map-reverse f (x ∷ xs) = ap (map f) (reverse-cons x xs) ∙ map-append f (reverse xs) (x ∷ []) ∙ ap (λ l. l ++ (f x ∷ [])) (map-reverse f xs) ∙ sym (reverse-cons (f x) (map f xs))

folded-candidate : (base : Text) (n : ℕ) → folded (candidate base n) ≡ folded base ++ reverse (letters n)
folded-candidate base n = map-append to_ascii_lowercase base (reverse (letters n)) ∙ ap (λ l. map to_ascii_lowercase base ++ l) (map-reverse to_ascii_lowercase (letters n) ∙ ap reverse (lower_kept (letters n) (lower_letters n)))

-- no two candidates are the same
pub candidates_apart : (base : Text) (n m : ℕ) → same (candidate base n) (candidate base m) ≡ true → n ≡ m
candidates_apart base n m e =
    let tails : reverse (letters n) ≡ reverse (letters m) = append_cancel_left (folded base) (reverse (letters n)) (reverse (letters m)) (sym (folded-candidate base n) ∙ same-true (candidate base n) (candidate base m) e ∙ folded-candidate base m) in
    sym (written-letters n) ∙ ap written (sym (reverse-reverse (letters n)) ∙ ap reverse tails ∙ reverse-reverse (letters m)) ∙ written-letters m

-- Taking out all keys that are the same as one key.

abbrev pub others : Text → List Text → List Text
others key taken = filter (λ t. not (same key t)) taken

others_le : (key : Text) (taken : List Text) → length (others key taken) ≤ length taken
others_le key [] = omega arith
others_le key (t ∷ taken) = ⊎_elim
    (λ e. let c = ap length (cond-false (not (same key t)) (t ∷ others key taken) (others key taken) (not_from_true (same key t) e)) in let h = others_le key taken in omega (arith, c, h))
    (λ e. let c = ap length (cond-true (not (same key t)) (t ∷ others key taken) (others key taken) (not_from_false (same key t) e)) in let h = others_le key taken in omega (arith, c, h))
    (cases_Bool (same key t))

others_less : (key : Text) (taken : List Text) → is_taken taken key ≡ true → length (others key taken) < length taken
others_less key [] h = absurd (false≢true h)
others_less key (t ∷ taken) h = ⊎_elim
    (λ e. let c = ap length (cond-false (not (same key t)) (t ∷ others key taken) (others key taken) (not_from_true (same key t) e)) in let k = others_le key taken in omega (arith, c, k))
    (λ e. let c = ap length (cond-true (not (same key t)) (t ∷ others key taken) (others key taken) (not_from_false (same key t) e)) in
    let k = others_less key taken (⊎_elim (λ s. absurd (both_ways (same key t) e s)) (λ s. s) (or_cases (same key t) (is_taken taken key) h)) in omega (arith, c, k))
    (cases_Bool (same key t))

-- another key is taken among them as before
taken_others : (key other : Text) (taken : List Text) → same key other ≡ false → is_taken (others key taken) other ≡ is_taken taken other
taken_others key other [] h = refl
taken_others key other (t ∷ taken) h = ⊎_elim
    (λ e. ap (λ l. is_taken l other) (cond-false (not (same key t)) (t ∷ others key taken) (others key taken) (not_from_true (same key t) e)) ∙ taken_others key other taken h
    ∙ sym (ap (λ b. b || is_taken taken other) (false_from_ne_true (same other t) (λ s. both_ways (same key other) h (true-same key other (same-true key t e ∙ sym (same-true other t s)))))))
    (λ e. ap (λ l. is_taken l other) (cond-true (not (same key t)) (t ∷ others key taken) (others key taken) (not_from_false (same key t) e)) ∙ ap (λ b. same other t || b) (taken_others key other taken h))
    (cases_Bool (same key t))

-- A free candidate is found.

pub record IsFree (taken : List Text) (base : Text) (found : Option Text) : Type 0 where
  pub key : Text
  pub is : found ≡ Some key
  pub free : is_taken taken key ≡ false
  pub number : ℕ
  pub made : key ≡ candidate base number

module _ (taken : List Text) (base : Text) where
  here : (count n : ℕ) → is_taken taken (candidate base n) ≡ false → IsFree taken base (find (λ key. not (is_taken taken key)) (candidates base n (suc count)))
  here count n e = record {
    key = candidate base n;
    is = cond-true (not (is_taken taken (candidate base n))) (Some (candidate base n)) (find (λ key. not (is_taken taken key)) (candidates base (suc n) count)) (not_from_false (is_taken taken (candidate base n)) e);
    free = e;
    number = n;
    made = refl;
  }

  later : (count n : ℕ) → is_taken taken (candidate base n) ≡ true → IsFree taken base (find (λ key. not (is_taken taken key)) (candidates base (suc n) count)) →
      IsFree taken base (find (λ key. not (is_taken taken key)) (candidates base n (suc count)))
  later count n e rest = record {
    key = rest.key;
    is = cond-false (not (is_taken taken (candidate base n))) (Some (candidate base n)) (find (λ key. not (is_taken taken key)) (candidates base (suc n) count)) (not_from_true (is_taken taken (candidate base n)) e) ∙ rest.is;
    free = rest.free;
    number = rest.number;
    made = rest.made;
  }

  -- `left` holds what is taken of the candidates from the n-th on
  finds : (count n : ℕ) (left : List Text) → length left ≤ count → ((j : ℕ) → n ≤ j → is_taken taken (candidate base j) ≡ is_taken left (candidate base j)) →
      IsFree taken base (find (λ key. not (is_taken taken key)) (candidates base n (suc count)))
  finds zero n left short agree = ⊎_elim
      (λ e. absurd (let fewer = others_less (candidate base n) left (sym (agree n (omega arith)) ∙ e) in omega arith))
      (λ e. here zero n e)
      (cases_Bool (is_taken taken (candidate base n)))
  finds (suc count) n left short agree = ⊎_elim
      (λ e.
      let fewer = others_less (candidate base n) left (sym (agree n (omega arith)) ∙ e) in
      later (suc count) n e (finds count (suc n) (others (candidate base n) left) (omega arith)
      (λ j le. agree j (omega arith) ∙ sym (taken_others (candidate base n) (candidate base j) left
      (false_from_ne_true (same (candidate base n) (candidate base j)) (λ s. let is = candidates_apart base n j s in absurd (omega arith)))))))
      (λ e. here (suc count) n e)
      (cases_Bool (is_taken taken (candidate base n)))

pub free_key_free : (taken : List Text) (base : Text) → IsFree taken base (find (λ key. not (is_taken taken key)) (candidates base 0 (suc (length taken))))
free_key_free taken base = finds taken base (length taken) 0 taken (omega arith) (λ j h. refl)
