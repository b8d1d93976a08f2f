-- Whether one of a list passes a test, one after another.
use Rattle.bib_answers.proofs.Words.{◌≡◌, ◌∙◌, ℕ, ◌+◌, ◌<◌, ◌≤◌, Bool, true, false, List, [], ◌∷◌, length, take, drop, get_or, Some, slice_get, refl, sym, ap, ⊎_elim, slice_get_cases, list_any, take_more, take_all, take-append-drop}
use Rattle.std.proofs.Common.{◌||◌, arith}
use Rattle.std.proofs.lemmas.List.Folds.{list_any-append}

module _ {X : Type 0} (test : X → Bool) (xs : List X) (n : ℕ) (told : Bool) (within : n < length xs) (tells : (x : X) → slice_get xs n ≡ Some x → told ≡ test x) (none : list_any test (take n xs) ≡ false) where
  -- the first n + 1 pass if element n does
  one_more : list_any test (take (n + 1) xs) ≡ told
  one_more = ⊎_elim
      (λ a.
      ap (list_any test) (take_more xs n a.0 within)
      ∙ list_any-append test (take n xs) (get_or xs n a.0 ∷ [])
      ∙ ap (λ (b : Bool). b || list_any test (get_or xs n a.0 ∷ [])) none
      ∙ ap (λ (b : Bool). b || false) (ap test a.3 ∙ sym (tells a.0 a.2))
      ∙ or_none told)
      (λ b. absurd (let few = b.0 in omega (arith, within, few)))
      (slice_get_cases xs n).1
    where
      or_none : (b : Bool) → (b || false) ≡ b
      or_none true = refl
      or_none false = refl

  pub any_passed : told ≡ false → list_any test (take (n + 1) xs) ≡ false
  any_passed is = one_more ∙ is

  pub any_found : told ≡ true → list_any test xs ≡ true
  any_found is =
      sym (ap (list_any test) (take-append-drop (n + 1) xs))
      ∙ list_any-append test (take (n + 1) xs) (drop (n + 1) xs)
      ∙ ap (λ (b : Bool). b || list_any test (drop (n + 1) xs)) (one_more ∙ is)

pub any_none : {X : Type 0} (test : X → Bool) (xs : List X) (n : ℕ) → length xs ≤ n → list_any test (take n xs) ≡ false → list_any test xs ≡ false
any_none test xs n all none = sym (ap (list_any test) (take_all n xs all)) ∙ none
