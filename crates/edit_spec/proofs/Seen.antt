-- What a name stands for: its last definition, or else a month.
use Rattle.edit_spec.proofs.Words.{◌≡◌, ℕ, zero, suc, ◌<◌, true, false, List, ◌∷◌, Some, slice_get, refl, sym, ◌∙◌, ap, suc-le-suc, zero-lt-suc, le_of_suc-le-suc, not-suc-le-zero, bytes_eq, cond-true, cond-false, or_parts, or_from, none-some, same_Some, Text, folded, same, Definition, Tree}
use Rattle.edit_spec.proofs.Words.{CommentTree, DefinitionTree, PreambleTree, EntryTree, Item, Macros, months, raw_text, macros_in, macros_after, macros_at, defines, is_after, same-is, same_comm}
use Rattle.std.proofs.Common.{[]}
use Rattle.edit_spec.specs.Laws.{sees_last_definition, sees_months}

module _ (name : Text) where
  after_other : (m : Macros) (tree : Tree) → defines name tree ≡ false → macros_after m tree (folded name) ≡ m (folded name)
  after_other m (CommentTree h) e = refl
  after_other m (PreambleTree p) e = refl
  after_other m (EntryTree t) e = refl
  after_other m (DefinitionTree d) e =
      cond-false (bytes_eq (folded name) (folded d.assignment.name)) (Some (raw_text (macros_in m (DefinitionTree d)) d.assignment.value)) (m (folded name)) (sym (same-is name d.assignment.name) ∙ same_comm name d.assignment.name ∙ e)

  after_defined : (m : Macros) (d : Definition) → same d.assignment.name name ≡ true → macros_after m (DefinitionTree d) (folded name) ≡ Some (raw_text (macros_in m (DefinitionTree d)) d.assignment.value)
  after_defined m d e =
      cond-true (bytes_eq (folded name) (folded d.assignment.name)) (Some (raw_text (macros_in m (DefinitionTree d)) d.assignment.value)) (m (folded name)) (sym (same-is name d.assignment.name) ∙ same_comm name d.assignment.name ∙ e)

  -- a name still stands for the same as long as no definition of it follows
  pub undefined : (m : Macros) (items : List Item) (n : ℕ) → is_after name items n ≡ false → macros_at m items n (folded name) ≡ m (folded name)
  undefined m items zero e = refl
  undefined m [] (suc n) e = refl
  undefined m (item ∷ items) (suc n) e =
      let both = or_parts (defines name item.tree) (is_after name items n) e in
      undefined (macros_after m item.tree) items n both.1 ∙ after_other m item.tree both.0

  none_beyond : (items : List Item) (n : ℕ) → ((j : ℕ) (item : Item) → j < n → slice_get items j ≡ Some item → defines name item.tree ≡ false) → is_after name items n ≡ false
  none_beyond items zero h = refl
  none_beyond [] (suc n) h = refl
  none_beyond (item ∷ items) (suc n) h = or_from (defines name item.tree) (is_after name items n) (h zero item (zero-lt-suc n) refl) (none_beyond items n (λ j other lt at. h (suc j) other (suc-le-suc lt) at))

  last : (m : Macros) (items : List Item) (k n : ℕ) (item : Item) (d : Definition) → slice_get items k ≡ Some item → item.tree ≡ DefinitionTree d → same d.assignment.name name ≡ true → k < n →
      ((j : ℕ) (other : Item) → k < j → j < n → slice_get items j ≡ Some other → defines name other.tree ≡ false) →
      macros_at m items n (folded name) ≡ Some (raw_text (macros_in (macros_at m items k) (DefinitionTree d)) d.assignment.value)
  last m [] k n item d at is e lt none = absurd (none-some item at)
  last m (first ∷ items) k zero item d at is e lt none = absurd (not-suc-le-zero lt)
  last m (first ∷ items) zero (suc n) item d at is e lt none =
      undefined (macros_after m first.tree) items n (none_beyond items n (λ j other lt at. none (suc j) other (zero-lt-suc j) (suc-le-suc lt) at))
      ∙ ap (λ (tree : Tree). macros_after m tree (folded name)) (ap (λ (i : Item). i.tree) (same_Some first item at) ∙ is)
      ∙ after_defined m d e
  last m (first ∷ items) (suc k) (suc n) item d at is e lt none =
      last (macros_after m first.tree) items k n item d at is e (le_of_suc-le-suc lt) (λ j other low high at. none (suc j) other (suc-le-suc low) (suc-le-suc high) at)

pub sees-last-definition : sees_last_definition
sees-last-definition db name k n item d at is e lt none = last name months db.items k n item d at is e lt none

pub sees-months : sees_months
sees-months db name n e = undefined name months db.items n e
