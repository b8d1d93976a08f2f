-- What is said of the items of a kind, in order, and the places of these items.
use Rattle.bib_store.proofs.Words.{◌≡◌, ℕ, zero, suc, ◌+◌, ◌<◌, Bool, true, false, List, [], ◌∷◌, ◌++◌, length, map, Some, ⊎_elim, refl, sym, ◌∙◌, ap, subst, arith, not-suc-le-zero, le_of_suc-le-suc, cases_Bool, cond-true, cond-false, Tree, Macros, macros_after, macros_at, gathered, numbered}
use Rattle.bib_store.proofs.Words.{numbers}
use Rattle.std.proofs.Common.{slice_get, add-zero}
use Rattle.bib_spec.specs.Reading.{Item}
use Rattle.bib_numbers.specs.Numbers.{those}

-- item n of a kind: where it stands, and what is said of it there
pub record StandsAt {X : Type 0} (test : Tree → Bool) (say : Macros → Tree → List X) (m : Macros) (from : ℕ) (items : List Item) (n : ℕ) : Type 0 where
  pub place : ℕ
  pub item : Item
  pub stands : slice_get items place ≡ Some item
  pub is_such : test item.tree ≡ true
  pub number : slice_get (numbers test from items) n ≡ Some (from + place)
  pub listed : slice_get (those test items) n ≡ Some item
  pub said : X
  pub says : say (macros_at m items place) item.tree ≡ said ∷ []
  pub told : slice_get (gathered say m items) n ≡ Some said

module _ {X : Type 0} (test : Tree → Bool) (say : Macros → Tree → List X)
    (silent : (m : Macros) (t : Tree) → test t ≡ false → say m t ≡ [])
    (speaks : (m : Macros) (t : Tree) → test t ≡ true → (x : X) × (say m t ≡ x ∷ [])) where
  numbers-such : (from : ℕ) (item : Item) (items : List Item) → test item.tree ≡ true → numbers test from (item ∷ items) ≡ from ∷ numbers test (from + 1) items
  numbers-such from item items t =
      ap (map (λ (p : ℕ × Item). p.0)) (cond-true (test item.tree) ((from, item) ∷ numbered test (from + 1) items) (numbered test (from + 1) items) t)

  numbers-other : (from : ℕ) (item : Item) (items : List Item) → test item.tree ≡ false → numbers test from (item ∷ items) ≡ numbers test (from + 1) items
  numbers-other from item items t =
      ap (map (λ (p : ℕ × Item). p.0)) (cond-false (test item.tree) ((from, item) ∷ numbered test (from + 1) items) (numbered test (from + 1) items) t)

  those-such : (item : Item) (items : List Item) → test item.tree ≡ true → those test (item ∷ items) ≡ item ∷ those test items
  those-such item items t = cond-true (test item.tree) (item ∷ those test items) (those test items) t

  those-other : (item : Item) (items : List Item) → test item.tree ≡ false → those test (item ∷ items) ≡ those test items
  those-other item items t = cond-false (test item.tree) (item ∷ those test items) (those test items) t

  told-such : (m : Macros) (item : Item) (items : List Item) (t : test item.tree ≡ true) →
      gathered say m (item ∷ items) ≡ (speaks m item.tree t).0 ∷ gathered say (macros_after m item.tree) items
  told-such m item items t = ap (λ (l : List X). l ++ gathered say (macros_after m item.tree) items) (speaks m item.tree t).1

  told-other : (m : Macros) (item : Item) (items : List Item) → test item.tree ≡ false → gathered say m (item ∷ items) ≡ gathered say (macros_after m item.tree) items
  told-other m item items t = ap (λ (l : List X). l ++ gathered say (macros_after m item.tree) items) (silent m item.tree t)

  -- as much is said as there are such items
  pub length-numbers : (m : Macros) (from : ℕ) (items : List Item) → length (numbers test from items) ≡ length (gathered say m items)
  length-numbers m from [] = refl
  length-numbers m from (item ∷ items) = ⊎_elim
      (λ t. ap length (numbers-such from item items t) ∙ ap suc (length-numbers (macros_after m item.tree) (from + 1) items) ∙ sym (ap length (told-such m item items t)))
      (λ t. ap length (numbers-other from item items t) ∙ length-numbers (macros_after m item.tree) (from + 1) items ∙ sym (ap length (told-other m item items t)))
      (cases_Bool (test item.tree))

  pub length-those : (m : Macros) (items : List Item) → length (those test items) ≡ length (gathered say m items)
  length-those m [] = refl
  length-those m (item ∷ items) = ⊎_elim
      (λ t. ap length (those-such item items t) ∙ ap suc (length-those (macros_after m item.tree) items) ∙ sym (ap length (told-such m item items t)))
      (λ t. ap length (those-other item items t) ∙ length-those (macros_after m item.tree) items ∙ sym (ap length (told-other m item items t)))
      (cases_Bool (test item.tree))

  -- after an item of the kind, the others are one further
  after_such : (m : Macros) (from : ℕ) (item : Item) (items : List Item) → test item.tree ≡ true →
      ((k : ℕ) → k < length (gathered say (macros_after m item.tree) items) → StandsAt test say (macros_after m item.tree) (from + 1) items k) →
      (n : ℕ) → n < length (gathered say m (item ∷ items)) → StandsAt test say m from (item ∷ items) n
  after_such m from item items t rest zero h = record {
    place = zero;
    item = item;
    stands = refl;
    is_such = t;
    number = ap (λ (l : List ℕ). slice_get l zero) (numbers-such from item items t) ∙ ap Some (sym (add-zero from));
    listed = ap (λ (l : List Item). slice_get l zero) (those-such item items t);
    said = (speaks m item.tree t).0;
    says = (speaks m item.tree t).1;
    told = ap (λ (l : List X). slice_get l zero) (told-such m item items t);
  }
  after_such m from item items t rest (suc n) h =
      let low : suc n < suc (length (gathered say (macros_after m item.tree) items)) = subst (λ (k : ℕ). suc n < k) (ap length (told-such m item items t)) h in
      let r = rest n (le_of_suc-le-suc low) in
      let further : from + 1 + r.place ≡ from + suc r.place = omega arith in
      record {
        place = suc r.place;
        item = r.item;
        stands = r.stands;
        is_such = r.is_such;
        number = ap (λ (l : List ℕ). slice_get l (suc n)) (numbers-such from item items t) ∙ r.number ∙ ap Some further;
        listed = ap (λ (l : List Item). slice_get l (suc n)) (those-such item items t) ∙ r.listed;
        said = r.said;
        says = r.says;
        told = ap (λ (l : List X). slice_get l (suc n)) (told-such m item items t) ∙ r.told;
      }

  after_other : (m : Macros) (from : ℕ) (item : Item) (items : List Item) → test item.tree ≡ false →
      ((k : ℕ) → k < length (gathered say (macros_after m item.tree) items) → StandsAt test say (macros_after m item.tree) (from + 1) items k) →
      (n : ℕ) → n < length (gathered say m (item ∷ items)) → StandsAt test say m from (item ∷ items) n
  after_other m from item items t rest n h =
      let r = rest n (subst (λ (k : ℕ). n < k) (ap length (told-other m item items t)) h) in
      let further : from + 1 + r.place ≡ from + suc r.place = omega arith in
      record {
        place = suc r.place;
        item = r.item;
        stands = r.stands;
        is_such = r.is_such;
        number = ap (λ (l : List ℕ). slice_get l n) (numbers-other from item items t) ∙ r.number ∙ ap Some further;
        listed = ap (λ (l : List Item). slice_get l n) (those-other item items t) ∙ r.listed;
        said = r.said;
        says = r.says;
        told = ap (λ (l : List X). slice_get l n) (told-other m item items t) ∙ r.told;
      }

  -- each that is said is said of an item of the kind, where it stands
  pub stands_at : (m : Macros) (from : ℕ) (items : List Item) (n : ℕ) → n < length (gathered say m items) → StandsAt test say m from items n
  stands_at m from [] n h = absurd (not-suc-le-zero h)
  stands_at m from (item ∷ items) n h = ⊎_elim
      (λ t. after_such m from item items t (stands_at (macros_after m item.tree) (from + 1) items) n h)
      (λ t. after_other m from item items t (stands_at (macros_after m item.tree) (from + 1) items) n h)
      (cases_Bool (test item.tree))
