-- Whether any of a list passes a test, told on the way through the list.
use Rattle.bib_edit.proofs.Words.{◌≡◌, ℕ, ◌+◌, ◌≤◌, ◌||◌, Bool, true, false, List, ◌∷◌, drop, length, sym, ◌∙◌, ap, list_any, drop_of_length-le}

module _ {X : Type 0} (test : X → Bool) (xs : List X) (n : ℕ) (whole : Bool) (so_far : whole ≡ list_any test (drop n xs)) where
  pub any-found : (x : X) → drop n xs ≡ x ∷ drop (n + 1) xs → test x ≡ true → true ≡ whole
  any-found x next passes = sym (so_far ∙ ap (list_any test) next ∙ ap (λ b. b || list_any test (drop (n + 1) xs)) passes)

  pub any-later : (x : X) → drop n xs ≡ x ∷ drop (n + 1) xs → test x ≡ false → whole ≡ list_any test (drop (n + 1) xs)
  any-later x next fails = so_far ∙ ap (list_any test) next ∙ ap (λ b. b || list_any test (drop (n + 1) xs)) fails

  pub any-none : length xs ≤ n → false ≡ whole
  any-none past = sym (so_far ∙ ap (list_any test) (drop_of_length-le xs past))
