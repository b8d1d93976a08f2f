-- The first item that passes a test, tried item by item, and that some do exactly where there is one.
use Rattle.bib_tokens.proofs.Words.{◌≡◌, ℕ, zero, suc, ◌<◌, Bool, true, false, ◌||◌, List, [], ◌∷◌, Some, option_map, slice_get, length, take, ⊎_elim, refl, sym, ◌∙◌, ap, arith, le_of_suc-le-suc, not-suc-le-zero, list_any, cases_Bool, cond-true, cond-false, or_parts, none-some, Tree, Item}
use Rattle.std.proofs.Common.{Option, None, is_some, count_by}
use Rattle.bib_spec.proofs.Counts.{count-yes, count-no}
use Rattle.bib_spec.proofs.Places.{suc_some}
use Rattle.bib_tokens.specs.FirstItem.{first_item}

module _ (test : Tree → Bool) where
  pub first-is : (items : List Item) (n : ℕ) → list_any (λ item. test item.tree) (take n items) ≡ false → n < length items → ((item : Item) → slice_get items n ≡ Some item → test item.tree ≡ true) → Some n ≡ first_item test items
  first-is [] n none lt this = absurd (not-suc-le-zero lt)
  first-is (item ∷ items) zero none lt this = sym (cond-true (test item.tree) (Some 0) (option_map suc (first_item test items)) (this item refl))
  first-is (item ∷ items) (suc n) none lt this =
      let both = or_parts (test item.tree) (list_any (λ item. test item.tree) (take n items)) none in
      ap (option_map suc) (first-is items n both.1 (le_of_suc-le-suc lt) this)
      ∙ sym (cond-false (test item.tree) (Some 0) (option_map suc (first_item test items)) both.0)

  pub first-none : (items : List Item) → list_any (λ item. test item.tree) items ≡ false → None ≡ first_item test items
  first-none [] none = refl
  first-none (item ∷ items) none =
      let both = or_parts (test item.tree) (list_any (λ item. test item.tree) items) none in
      ap (option_map suc) (first-none items both.1)
      ∙ sym (cond-false (test item.tree) (Some 0) (option_map suc (first_item test items)) both.0)

  -- ---- how many

  abbrev passing : List Item → ℕ
  passing items = count_by (λ item. test item.tree) items

  -- where there is no first, none passes
  pub none-count : (items : List Item) → None ≡ first_item test items → passing items ≡ 0
  none-count [] none = refl
  none-count (item ∷ items) none = ⊎_elim
      (λ t. absurd (none_some (none ∙ cond-true (test item.tree) (Some 0) (option_map suc (first_item test items)) t)))
      (λ t. count-no (λ item. test item.tree) item items t
      ∙ none-count items (no_map (first_item test items) (none ∙ cond-false (test item.tree) (Some 0) (option_map suc (first_item test items)) t)))
      (cases_Bool (test item.tree))
    where
      none_some : ◌≡◌ {A = Option ℕ} None (Some 0) → ⊥
      none_some e = none-some 0 e

      no_map : (o : Option ℕ) → None ≡ option_map suc o → None ≡ o
      no_map None e = refl
      no_map (Some k) e = absurd (none-some (suc k) e)

  -- where there is a first, some pass
  pub first-count : (items : List Item) (n : ℕ) → first_item test items ≡ Some n → 0 < passing items
  first-count [] n found = absurd (none-some n found)
  first-count (item ∷ items) n found = ⊎_elim
      (λ t. let more = count-yes (λ item. test item.tree) item items t in omega (arith, more))
      (λ t.
      let same = count-no (λ item. test item.tree) item items t in
      let later = suc_some (first_item test items) n (sym (cond-false (test item.tree) (Some 0) (option_map suc (first_item test items)) t) ∙ found) in
      let rest = first-count items later.0 later.1 in omega (arith, same, rest))
      (cases_Bool (test item.tree))

  -- there is a first exactly where some item passes
  pub first-any : (items : List Item) → is_some (first_item test items) ≡ list_any (λ item. test item.tree) items
  first-any [] = refl
  first-any (item ∷ items) = ⊎_elim
      (λ t. ap is_some (cond-true (test item.tree) (Some 0) (option_map suc (first_item test items)) t) ∙ sym (ap (λ b. b || list_any (λ item. test item.tree) items) t))
      (λ t.
      ap is_some (cond-false (test item.tree) (Some 0) (option_map suc (first_item test items)) t) ∙ some_map (first_item test items) ∙ first-any items
      ∙ sym (ap (λ b. b || list_any (λ item. test item.tree) items) t))
      (cases_Bool (test item.tree))
    where
      some_map : (o : Option ℕ) → is_some (option_map suc o) ≡ is_some o
      some_map None = refl
      some_map (Some k) = refl
