-- Whether a name is in use, told in parts.
use Rattle.bib_edit.proofs.Words.{◌≡◌, ℕ, Bool, true, false, not, ◌&&◌, ◌||◌, is_some, List, [], ◌∷◌, take, drop, refl, sym, ◌∙◌, ap, ap₂, take-append-drop, list_any, or_assoc, or_comm, Text, folded, same, months, Item, defines, uses, any_part, is_in_use, have_part, is_given, is_used}
use Rattle.bib_edit.proofs.Words.{is_taken_before, is_taken_from, list_any-append}
use Rattle.std.proofs.lemmas.Bool.{or_left, or_right}

or_swap : (a b c d : Bool) → ((a || b) || (c || d)) ≡ ((a || c) || (b || d))
or_swap true b c d = refl
or_swap false true true d = refl
or_swap false true false d = refl
or_swap false false c d = refl

any-or : {X : Type 0} (p q : X → Bool) (xs : List X) → list_any (λ x. p x || q x) xs ≡ (list_any p xs || list_any q xs)
any-or p q [] = refl
any-or p q (x ∷ xs) = ap (λ b. (p x || q x) || b) (any-or p q xs) ∙ or_swap (p x) (q x) (list_any p xs) (list_any q xs)

module _ (name : Text) (items : List Item) where
  -- a name is in use where it is given, or used
  used-or_given : is_in_use name items ≡ (is_given name items || is_used name items)
  used-or_given =
      ap (λ b. is_some (months (folded name)) || b) (any-or (λ (item : Item). defines name item.tree) (λ (item : Item). any_part (uses name) item.tree) items)
      ∙ sym (or_assoc (is_some (months (folded name))) (list_any (λ (item : Item). defines name item.tree) items) (is_used name items))

  -- before item n, or from it on
  used-parts : (n : ℕ) → is_used name items ≡ (is_used name (take n items) || is_used name (drop n items))
  used-parts n = ap (have_part (uses name)) (sym (take-append-drop n items)) ∙ list_any-append (λ (item : Item). any_part (uses name) item.tree) (take n items) (drop n items)

  pub in-use-before : (n : ℕ) → is_in_use name items ≡ ((is_given name items || is_used name (take n items)) || is_used name (drop n items))
  in-use-before n =
      used-or_given ∙ ap (λ b. is_given name items || b) (used-parts n) ∙ sym (or_assoc (is_given name items) (is_used name (take n items)) (is_used name (drop n items)))

  -- what is told after a pass over all items
  pub in-use-told : (n : ℕ) (before from told : Bool) → before ≡ is_used name (take n items) → from ≡ is_used name (drop n items) → told ≡ ((before || from) || is_given name items) → told ≡ is_in_use name items
  in-use-told n before from told b f t =
      t ∙ ap₂ (λ x y. (x || y) || is_given name items) b f ∙ or_comm (is_used name (take n items) || is_used name (drop n items)) (is_given name items)
      ∙ sym (used-or_given ∙ ap (λ c. is_given name items || c) (used-parts n))

-- whether a new name is in use
module _ (n : ℕ) (from to : Text) (items : List Item) where
  both_or : (s a b : Bool) → (s && (a || b)) ≡ ((s && a) || (s && b))
  both_or true a b = refl
  both_or false a b = refl

  parts : (not (same to from) && is_in_use to items) ≡ (is_taken_before n from to items || is_taken_from n from to items)
  parts =
      ap (λ b. not (same to from) && b) (in-use-before to items n)
      ∙ both_or (not (same to from)) (is_given to items || is_used to (take n items)) (is_used to (drop n items))

  pub taken-before : is_taken_before n from to items ≡ true → (not (same to from) && is_in_use to items) ≡ true
  taken-before t = parts ∙ or_left (is_taken_before n from to items) (is_taken_from n from to items) t

  pub taken-from : is_taken_from n from to items ≡ true → (not (same to from) && is_in_use to items) ≡ true
  taken-from t = parts ∙ or_right (is_taken_before n from to items) (is_taken_from n from to items) t

  pub taken-never : is_taken_before n from to items ≡ false → is_taken_from n from to items ≡ false → (not (same to from) && is_in_use to items) ≡ false
  taken-never b f = parts ∙ ap₂ ◌||◌ b f
