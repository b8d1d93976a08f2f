-- How many items are before the first entry that a key names.
use Rattle.bib_edit.proofs.Words.{◌≡◌, ◌≤◌, arith, ℕ, zero, suc, Bool, false, List, [], ◌∷◌, Option, Some, None, option_map, length, ⊎_elim, refl, sym, ◌∙◌, ap, cases_Bool, cond-true, cond-false, none-some, Text, Tree, CommentTree, DefinitionTree, PreambleTree, EntryTree, Item, Reading, Macros, months, macros_after, gathered, entry_in, entries_of}
use Rattle.bib_edit.proofs.Words.{keys_of, is_named, first_named, entry_named, is_entry, item_named, IsFirstAt}
use Rattle.edit_spec.specs.OtherLaws.{number_of_first}
use Rattle.bib_edit.specs.Positions.{items_before}
use Rattle.bib_edit.proofs.FoundItems.{first-at}

before-first : (test : Tree → Bool) (items : List Item) (n : ℕ) → IsFirstAt test items n → number_of_first test items ≡ n
before-first test [] n f = absurd f
before-first test (item ∷ items) zero f = cond-true (test item.tree) 0 (suc (number_of_first test items)) f
before-first test (item ∷ items) (suc n) f = cond-false (test item.tree) 0 (suc (number_of_first test items)) f.0 ∙ ap suc (before-first test items n f.1)

-- the item that the key names
pub before-named : (key : Text) (db : Reading) (n : ℕ) → item_named key db ≡ Some n → items_before key db.items ≡ n
before-named key db n named = before-first (is_entry key) db.items n (first-at (is_entry key) db.items n named)

-- the number of the first that passes a test is no more than the count
pub before-within : (test : Tree → Bool) (items : List Item) → number_of_first test items ≤ length items
before-within test [] = omega arith
before-within test (item ∷ items) = ⊎_elim
    (λ t. let e = cond-true (test item.tree) 0 (suc (number_of_first test items)) t in omega (arith, e))
    (λ f.
    let e = cond-false (test item.tree) 0 (suc (number_of_first test items)) f in
    let rest = before-within test items in
    omega (arith, e, rest))
    (cases_Bool (test item.tree))

-- ---- a key that names none

no_number : (o : Option ℕ) → option_map suc o ≡ None → o ≡ None
no_number None e = refl
no_number (Some n) e = absurd (none-some (suc n) (sym e))

module _ (key : Text) where
  abbrev number : Macros → List Item → Option ℕ
  number m items = first_named key (keys_of (gathered entry_in m items))

  abbrev item_at : Tree → Text → Item
  item_at tree trail = record { tree = tree; trail = trail }

  passed : (tree : Tree) (trail : Text) (items : List Item) → is_entry key tree ≡ false → items_before key items ≡ length items → items_before key (item_at tree trail ∷ items) ≡ length (item_at tree trail ∷ items)
  passed tree trail items other rest = cond-false (is_entry key tree) 0 (suc (items_before key items)) other ∙ ap suc rest

  none_after : (m : Macros) (tree : Tree) (trail : Text) (items : List Item) → (number (macros_after m tree) items ≡ None → items_before key items ≡ length items) →
      number m (item_at tree trail ∷ items) ≡ None → items_before key (item_at tree trail ∷ items) ≡ length (item_at tree trail ∷ items)
  none_after m (CommentTree h) trail items rest e = passed (CommentTree h) trail items refl (rest e)
  none_after m (DefinitionTree d) trail items rest e = passed (DefinitionTree d) trail items refl (rest e)
  none_after m (PreambleTree p) trail items rest e = passed (PreambleTree p) trail items refl (rest e)
  none_after m (EntryTree x) trail items rest e = ⊎_elim
      (λ t. absurd (none-some zero (sym e ∙ cond-true (is_named key x.key) (Some zero) (option_map suc (number m items)) t)))
      (λ t. passed (EntryTree x) trail items t (rest (no_number (number m items) (sym (cond-false (is_named key x.key) (Some zero) (option_map suc (number m items)) t) ∙ e))))
      (cases_Bool (is_named key x.key))

  none_before : (m : Macros) (items : List Item) → number m items ≡ None → items_before key items ≡ length items
  none_before m [] e = refl
  none_before m (item ∷ items) e = none_after m item.tree item.trail items (none_before (macros_after m item.tree) items) e

  pub before-none : (db : Reading) → entry_named (entries_of db) key ≡ None → items_before key db.items ≡ length db.items
  before-none db e = none_before months db.items e
