-- Elements picked by their numbers.
use Rattle.std.proofs.Common.{◌≡◌, ℕ, zero, suc, ◌+◌, ◌==◌, Bool, true, cond, List, [], ◌∷◌, Option, Some, None, option_map, slice_get, ⊎_elim, refl, sym, ◌∙◌, ap, ap₂, subst, arith, add-zero, eq-eqb}
use Rattle.std.proofs.lemmas.Bool.{cases_Bool, cond-true, cond-false, eqb-true}
use Rattle.std.proofs.lemmas.Option.{none-some, same_Some}
use Rattle.bib_spec.specs.Text.{Text}
use Rattle.bib_spec.specs.Records.{EntryTexts, keys_of, is_named, first_named}
use Rattle.bib_spec.proofs.Keys.{option_cases}
use Rattle.bib_spec.proofs.Names.{both_true}
use Rattle.extract_spec.specs.Extract.{picked, number_in}

shift : (s n : ℕ) → s + suc n ≡ suc s + n
shift s n = omega arith

module _ (keeps : ℕ → Bool) where
  here : (s : ℕ) → keeps (s + 0) ≡ true → keeps s ≡ true
  here s h = subst (λ a. keeps a ≡ true) (add-zero s) h

  later : (s n : ℕ) → keeps (s + suc n) ≡ true → keeps (suc s + n) ≡ true
  later s n h = subst (λ a. keeps a ≡ true) (shift s n) h

  -- an element that is kept is found under its new number
  pub at_number : {X : Type 0} (s n : ℕ) (xs : List X) → keeps (s + n) ≡ true → slice_get (picked keeps s xs) (number_in keeps s n) ≡ slice_get xs n
  at_number s n [] h = refl
  at_number s zero (x ∷ xs) h = ap (λ l. slice_get l 0) (cond-true (keeps s) (x ∷ picked keeps (suc s) xs) (picked keeps (suc s) xs) (here s h))
  at_number s (suc n) (x ∷ xs) h =
      let rest = picked keeps (suc s) xs in
      let m = number_in keeps (suc s) n in ⊎_elim
      (λ e. ap₂ slice_get (cond-true (keeps s) (x ∷ rest) rest e) (cond-true (keeps s) (suc m) m e) ∙ at_number (suc s) n xs (later s n h))
      (λ e. ap₂ slice_get (cond-false (keeps s) (x ∷ rest) rest e) (cond-false (keeps s) (suc m) m e) ∙ at_number (suc s) n xs (later s n h))
      (cases_Bool (keeps s))

  -- two elements that are kept have two numbers
  pub one_number : (s a b : ℕ) → keeps (s + a) ≡ true → keeps (s + b) ≡ true → number_in keeps s a ≡ number_in keeps s b → a ≡ b
  one_number s zero zero h k e = refl
  one_number s zero (suc b) h k e =
      let n = number_in keeps (suc s) b in
      let it : 0 ≡ suc n = e ∙ cond-true (keeps s) (suc n) n (here s h) in absurd (omega (arith, it))
  one_number s (suc a) zero h k e =
      let m = number_in keeps (suc s) a in
      let it : 0 ≡ suc m = sym e ∙ cond-true (keeps s) (suc m) m (here s k) in absurd (omega (arith, it))
  one_number s (suc a) (suc b) h k e =
      let m = number_in keeps (suc s) a in
      let n = number_in keeps (suc s) b in
      let it : m ≡ n = ⊎_elim
      (λ t. let both : suc m ≡ suc n = sym (cond-true (keeps s) (suc m) m t) ∙ e ∙ cond-true (keeps s) (suc n) n t in omega (arith, both))
      (λ f. sym (cond-false (keeps s) (suc m) m f) ∙ e ∙ cond-false (keeps s) (suc n) n f)
      (cases_Bool (keeps s)) in
      ap suc (one_number (suc s) a b (later s a h) (later s b k) it)

  pub eq-number : (s a b : ℕ) → keeps (s + a) ≡ true → keeps (s + b) ≡ true → (number_in keeps s a == number_in keeps s b) ≡ (a == b)
  eq-number s a b h k = both_true (number_in keeps s a == number_in keeps s b) (a == b)
      (λ e. eq-eqb a b (one_number s a b h k (eqb-true (number_in keeps s a) (number_in keeps s b) e)))
      (λ e. eq-eqb (number_in keeps s a) (number_in keeps s b) (ap (number_in keeps s) (eqb-true a b e)))

  pub keys-picked : (s : ℕ) (entries : List EntryTexts) → keys_of (picked keeps s entries) ≡ picked keeps s (keys_of entries)
  keys-picked s [] = refl
  keys-picked s (entry ∷ entries) =
      let rest = picked keeps (suc s) entries in
      let keys = picked keeps (suc s) (keys_of entries) in ⊎_elim
      (λ e. ap keys_of (cond-true (keeps s) (entry ∷ rest) rest e) ∙ ap (λ l. entry.key ∷ l) (keys-picked (suc s) entries) ∙ sym (cond-true (keeps s) (entry.key ∷ keys) keys e))
      (λ e. ap keys_of (cond-false (keeps s) (entry ∷ rest) rest e) ∙ keys-picked (suc s) entries ∙ sym (cond-false (keeps s) (entry.key ∷ keys) keys e))
      (cases_Bool (keeps s))

  -- if the first key that the text names is kept, the text names it among the kept keys
  pub first_picked : (text : Text) (s : ℕ) (keys : List Text) (t : ℕ) → first_named text keys ≡ Some t → keeps (s + t) ≡ true → first_named text (picked keeps s keys) ≡ Some (number_in keeps s t)
  first_picked text s [] t e h = absurd (none-some t e)
  first_picked text s (key ∷ keys) t e h =
      let rest = picked keeps (suc s) keys in
      let next = option_map suc (first_named text keys) in
      let P : ℕ → Type 0 = λ t. keeps (s + t) ≡ true → first_named text (picked keeps s (key ∷ keys)) ≡ Some (number_in keeps s t) in
      let F : Option ℕ → Option ℕ = λ o. cond (is_named text key) (Some 0) o in ⊎_elim
      (λ is. subst P (same_Some 0 t (sym (cond-true (is_named text key) (Some 0) next is) ∙ e))
      (λ k. ap (first_named text) (cond-true (keeps s) (key ∷ rest) rest (here s k)) ∙ cond-true (is_named text key) (Some 0) (option_map suc (first_named text rest)) is) h)
      (λ other. ⊎_elim
      (λ none. absurd (none-some t (sym (ap (option_map suc) none) ∙ sym (cond-false (is_named text key) (Some 0) next other) ∙ e)))
      (λ some.
      let m = number_in keeps (suc s) some.0 in
      subst P (same_Some (suc some.0) t (sym (ap (option_map suc) some.1) ∙ sym (cond-false (is_named text key) (Some 0) next other) ∙ e))
      (λ k.
      let found = first_picked text (suc s) keys some.0 some.1 (later s some.0 k) in ⊎_elim
      (λ t. ap (first_named text) (cond-true (keeps s) (key ∷ rest) rest t) ∙ cond-false (is_named text key) (Some 0) (option_map suc (first_named text rest)) other
      ∙ ap (option_map suc) found ∙ ap Some (sym (cond-true (keeps s) (suc m) m t)))
      (λ f. ap (first_named text) (cond-false (keeps s) (key ∷ rest) rest f) ∙ found ∙ ap Some (sym (cond-false (keeps s) (suc m) m f)))
      (cases_Bool (keeps s))) h)
      (option_cases (first_named text keys)))
      (cases_Bool (is_named text key))

  -- a text that names no key names none of the kept keys
  pub none_picked : (text : Text) (s : ℕ) (keys : List Text) → first_named text keys ≡ None → first_named text (picked keeps s keys) ≡ None
  none_picked text s [] e = refl
  none_picked text s (key ∷ keys) e =
      let rest = picked keeps (suc s) keys in
      let next = option_map suc (first_named text keys) in ⊎_elim
      (λ is. absurd (none-some 0 (sym e ∙ cond-true (is_named text key) (Some 0) next is)))
      (λ other. ⊎_elim
      (λ none.
      let found = none_picked text (suc s) keys none in ⊎_elim
      (λ t. ap (first_named text) (cond-true (keeps s) (key ∷ rest) rest t) ∙ cond-false (is_named text key) (Some 0) (option_map suc (first_named text rest)) other ∙ ap (option_map suc) found)
      (λ f. ap (first_named text) (cond-false (keeps s) (key ∷ rest) rest f) ∙ found)
      (cases_Bool (keeps s)))
      (λ some. absurd (none-some (suc some.0) (sym e ∙ cond-false (is_named text key) (Some 0) next other ∙ ap (option_map suc) some.1)))
      (option_cases (first_named text keys)))
      (cases_Bool (is_named text key))
