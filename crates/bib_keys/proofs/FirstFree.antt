-- The first candidate that is not taken, after some that are.
use Rattle.bib_keys.proofs.Words.{◌≡◌, ℕ, zero, suc, ◌+◌, ◌-◌, ◌≤◌, ◌<◌, true, false, not, List, Option, Some, length, sym, ◌∙◌, ap, ap₂, arith, append-nil, zero-add, add-zero, cond-true, cond-false, Text, candidate, is_taken, free_key, AreTried}
use Rattle.std.proofs.Common.{unwrap_or, find, below_more}
use Rattle.std.proofs.lemmas.Bool.{not_from_true, not_from_false}
use Rattle.bib_spec.specs.MadeKeys.{candidates}

module _ (keys : List Text) (base : Text) where
  abbrev first_of : List Text → Option Text
  first_of tried = find (λ key. not (is_taken keys key)) tried

  -- candidates that are taken are passed over
  skipped : (k m count : ℕ) → ((j : ℕ) → j < k → is_taken keys (candidate base (m + j)) ≡ true) → first_of (candidates base m (k + count)) ≡ first_of (candidates base (m + k) count)
  skipped zero m count taken = ap₂ (λ (a b : ℕ). first_of (candidates base a b)) (sym (add-zero m)) (zero-add count)
  skipped (suc k) m count taken =
      let long : suc k + count ≡ suc (k + count) = omega arith in
      let here : is_taken keys (candidate base m) ≡ true = ap (λ (j : ℕ). is_taken keys (candidate base j)) (sym (add-zero m)) ∙ taken zero (omega arith) in
      let place : suc m + k ≡ m + suc k = omega arith in
      ap (λ (n : ℕ). first_of (candidates base m n)) long
      ∙ cond-false (not (is_taken keys (candidate base m))) (Some (candidate base m)) (first_of (candidates base (suc m) (k + count))) (not_from_true (is_taken keys (candidate base m)) here)
      ∙ skipped k (suc m) count (λ j lt. ap (λ (i : ℕ). is_taken keys (candidate base i)) (further m j) ∙ taken (suc j) (omega (arith, lt)))
      ∙ ap (λ (a : ℕ). first_of (candidates base a count)) place
    where
      further : (m j : ℕ) → suc m + j ≡ m + suc j
      further m j = omega arith

  after : (n count : ℕ) → AreTried keys base n → first_of (candidates base 0 (n + count)) ≡ first_of (candidates base n count)
  after n count tried =
      skipped n 0 count (λ j lt. ap (λ (i : ℕ). is_taken keys (candidate base i)) (zero-add j) ∙ tried j lt)
      ∙ ap (λ (a : ℕ). first_of (candidates base a count)) (zero-add n)

  pub free-found : (n : ℕ) → AreTried keys base n → n ≤ length keys → is_taken keys (candidate base n) ≡ false → candidate base n ≡ free_key keys base
  free-found n tried le free =
      let long : suc (length keys) ≡ n + suc (length keys - n) = omega (arith, le) in
      sym (ap (λ (o : Option Text). unwrap_or o base)
      (ap (λ (count : ℕ). first_of (candidates base 0 count)) long
      ∙ after n (suc (length keys - n)) tried
      ∙ cond-true (not (is_taken keys (candidate base n))) (Some (candidate base n)) (first_of (candidates base (suc n) (length keys - n))) (not_from_false (is_taken keys (candidate base n)) free)))

  pub free-exhausted : (n : ℕ) → AreTried keys base n → length keys < n → candidate base 0 ≡ free_key keys base
  free-exhausted n tried lt =
      let long : suc (length keys) ≡ suc (length keys) + 0 = omega arith in
      append-nil base
      ∙ sym (ap (λ (o : Option Text). unwrap_or o base)
      (ap (λ (count : ℕ). first_of (candidates base 0 count)) long
      ∙ after (suc (length keys)) 0 (λ k less. tried k (omega (arith, less, lt)))))

  pub tried-more : (n : ℕ) → AreTried keys base n → is_taken keys (candidate base n) ≡ true → AreTried keys base (n + 1)
  tried-more n tried taken = below_more (λ (k : ℕ). is_taken keys (candidate base k) ≡ true) n tried taken
