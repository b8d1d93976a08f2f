-- The first item that passes a test, by its number.
use Rattle.bib_edit.proofs.Words.{◌≡◌, ℕ, zero, suc, ◌<◌, Bool, List, [], ◌∷◌, Some, option_map, length, ⊎_elim, sym, ◌∙◌, subst, suc-le-suc, zero-lt-suc, cases_Bool, cond-true, cond-false, none-some, same_Some, Text, Tree, Item, Reading, suc_some, is_entry, defines, first_item, IsHeldAt}
use Rattle.bib_edit.proofs.Words.{IsDefinedAt, IsFirstAt}

pub first-within : (test : Tree → Bool) (items : List Item) (n : ℕ) → IsFirstAt test items n → n < length items
first-within test [] n f = absurd f
first-within test (item ∷ items) zero f = zero-lt-suc (length items)
first-within test (item ∷ items) (suc n) f = suc-le-suc (first-within test items n f.1)

-- the first item that passes the test, by its number
pub first-at : (test : Tree → Bool) (items : List Item) (n : ℕ) → first_item test items ≡ Some n → IsFirstAt test items n
first-at test [] n e = absurd (none-some n e)
first-at test (item ∷ items) n e = ⊎_elim
    (λ t.
    let here : zero ≡ n = same_Some zero n (sym (cond-true (test item.tree) (Some zero) (option_map suc (first_item test items)) t) ∙ e) in
    subst (λ (n : ℕ). IsFirstAt test (item ∷ items) n) here t)
    (λ t.
    let later = suc_some (first_item test items) n (sym (cond-false (test item.tree) (Some zero) (option_map suc (first_item test items)) t) ∙ e) in
    subst (λ (n : ℕ). IsFirstAt test (item ∷ items) n) later.2 (t, first-at test items later.0 later.1))
    (cases_Bool (test item.tree))

-- the item that the key of one entry names
module _ (key : Text) (db : Reading) (n : ℕ) (lone : IsHeldAt key db n) where
  pub held-at : IsFirstAt (is_entry key) db.items n
  held-at = first-at (is_entry key) db.items n lone.item

  pub held-within : n < length db.items
  held-within = first-within (is_entry key) db.items n held-at

-- the item that is a macro's one definition
module _ (name : Text) (db : Reading) (n : ℕ) (lone : IsDefinedAt name db n) where
  pub defined-at : IsFirstAt (defines name) db.items n
  defined-at = first-at (defines name) db.items n lone.item

  pub defined-within : n < length db.items
  defined-within = first-within (defines name) db.items n defined-at
