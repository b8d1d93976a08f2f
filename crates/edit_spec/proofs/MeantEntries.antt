-- One entry of a file is changed, by its number among the items: what the entries say then, and what stays.
use Rattle.edit_spec.proofs.Words.{◌≡◌, ◌==◌, ℕ, zero, suc, Bool, true, false, List, ◌∷◌, ◌++◌, Option, Some, None, option_map, slice_get, take, refl, sym, ◌∙◌, ap, length, eq-eqb, arith, none-some, same_Some, false≢true, Text, Entry, Tree, CommentTree, DefinitionTree, PreambleTree, EntryTree, Item, Macros, macros_after, macros_at, gathered}
use Rattle.edit_spec.proofs.Words.{EntryTexts, texts_of, entry_in, preamble_in, keys_of, is_entry, of_entry}
use Rattle.std.proofs.Common.{[], if◌then◌else◌, ne_eqb}
use Rattle.edit_spec.specs.Edits.{with_tree_at}
use Rattle.edit_spec.proofs.FirstEntries.{number-later, macros-of_entry}

module _ (change : Entry → Entry) (become : EntryTexts → EntryTexts) (texts : (m : Macros) (e : Entry) → texts_of m (change e) ≡ become (texts_of m e)) where
  -- the entries, where entry `j` is changed
  abbrev pub changed_at : ℕ → List EntryTexts → List EntryTexts
  changed_at j [] = []
  changed_at zero (entry ∷ rest) = become entry ∷ rest
  changed_at (suc j) (entry ∷ rest) = entry ∷ changed_at j rest

  abbrev new_items : ℕ → List Item → List Item
  new_items p items = with_tree_at p (of_entry change) items

  abbrev item_of : Tree → Text → Item
  item_of tree trail = record { tree = tree; trail = trail }

  at_first : (name : Text) (m : Macros) (tree : Tree) (trail : Text) (items : List Item) → is_entry name tree ≡ true →
      gathered entry_in m (item_of (of_entry change tree) trail ∷ items) ≡ changed_at 0 (gathered entry_in m (item_of tree trail ∷ items))
  at_first name m (EntryTree e) trail items h = ap (λ entry. entry ∷ gathered entry_in m items) (texts m e)
  at_first name m (CommentTree c) trail items h = absurd (false≢true h)
  at_first name m (DefinitionTree d) trail items h = absurd (false≢true h)
  at_first name m (PreambleTree p) trail items h = absurd (false≢true h)

  after_first : (m : Macros) (tree : Tree) (trail : Text) (items : List Item) (p : ℕ) →
      ((m : Macros) → gathered entry_in m (new_items p items) ≡ changed_at (length (gathered entry_in m (take p items))) (gathered entry_in m items)) →
      gathered entry_in m (item_of tree trail ∷ new_items p items) ≡ changed_at (length (gathered entry_in m (item_of tree trail ∷ take p items))) (gathered entry_in m (item_of tree trail ∷ items))
  after_first m (EntryTree e) trail items p rest = ap (λ entries. texts_of m e ∷ entries) (rest m)
  after_first m (CommentTree c) trail items p rest = rest m
  after_first m (DefinitionTree d) trail items p rest = rest (macros_after m (DefinitionTree d))
  after_first m (PreambleTree t) trail items p rest = rest m

  -- the item that is changed is an entry
  pub entries-at : (name : Text) (p : ℕ) (m : Macros) (items : List Item) (item : Item) → slice_get items p ≡ Some item → is_entry name item.tree ≡ true →
      gathered entry_in m (with_tree_at p (of_entry change) items) ≡ changed_at (length (gathered entry_in m (take p items))) (gathered entry_in m items)
  entries-at name p m [] item at e = absurd (none-some item at)
  entries-at name zero m (first ∷ items) item at e = at_first name m first.tree first.trail items (ap (λ (i : Item). is_entry name i.tree) (same_Some first item at) ∙ e)
  entries-at name (suc p) m (first ∷ items) item at e = after_first m first.tree first.trail items p (λ m. entries-at name p m items item at e)

  preambles-first : (m : Macros) (tree : Tree) (items : List Item) →
      preamble_in m (of_entry change tree) ++ gathered preamble_in (macros_after m (of_entry change tree)) items ≡ preamble_in m tree ++ gathered preamble_in (macros_after m tree) items
  preambles-first m (EntryTree e) items = refl
  preambles-first m (CommentTree c) items = refl
  preambles-first m (DefinitionTree d) items = refl
  preambles-first m (PreambleTree p) items = refl

  pub preambles-at : (p : ℕ) (m : Macros) (items : List Item) → gathered preamble_in m (with_tree_at p (of_entry change) items) ≡ gathered preamble_in m items
  preambles-at p m [] = refl
  preambles-at zero m (first ∷ items) = preambles-first m first.tree items
  preambles-at (suc p) m (first ∷ items) = ap (λ l. preamble_in m first.tree ++ l) (preambles-at p (macros_after m first.tree) items)

  pub macros-at : (p : ℕ) (m : Macros) (items : List Item) (k : ℕ) → macros_at m (with_tree_at p (of_entry change) items) k ≡ macros_at m items k
  macros-at p m [] k = refl
  macros-at zero m (first ∷ items) zero = refl
  macros-at zero m (first ∷ items) (suc k) = ap (λ after. macros_at after items k) (macros-of_entry change m first.tree)
  macros-at (suc p) m (first ∷ items) zero = refl
  macros-at (suc p) m (first ∷ items) (suc k) = macros-at p (macros_after m first.tree) items k

  -- ---- each entry by its number

  -- an entry, changed if it is the one
  abbrev pub become_if : Bool → EntryTexts → EntryTexts
  become_if b entry = if b then become entry else entry

  unchanged : (o : Option EntryTexts) → option_map (become_if false) o ≡ o
  unchanged None = refl
  unchanged (Some entry) = refl

  pub entry-at : (j : ℕ) (entries : List EntryTexts) (n : ℕ) → slice_get (changed_at j entries) n ≡ option_map (become_if (j == n)) (slice_get entries n)
  entry-at j [] n = refl
  entry-at zero (entry ∷ rest) zero = ap (λ b. Some (become_if b entry)) (sym (eq-eqb zero zero refl))
  entry-at zero (entry ∷ rest) (suc n) = sym (ap (λ b. option_map (become_if b) (slice_get rest n)) (ne_eqb zero (suc n) (omega arith)) ∙ unchanged (slice_get rest n))
  entry-at (suc j) (entry ∷ rest) zero = ap (λ b. Some (become_if b entry)) (sym (ne_eqb (suc j) zero (omega arith)))
  entry-at (suc j) (entry ∷ rest) (suc n) = entry-at j rest n ∙ ap (λ b. option_map (become_if b) (slice_get rest n)) (sym (number-later (Some j) n))

  module _ (key_kept : (entry : EntryTexts) → (become entry).key ≡ entry.key) where
    pub keys-at : (j : ℕ) (entries : List EntryTexts) → keys_of (changed_at j entries) ≡ keys_of entries
    keys-at j [] = refl
    keys-at zero (entry ∷ rest) = ap (λ k. k ∷ keys_of rest) (key_kept entry)
    keys-at (suc j) (entry ∷ rest) = ap (λ keys. entry.key ∷ keys) (keys-at j rest)

  pub length-at : (j : ℕ) (entries : List EntryTexts) → length (changed_at j entries) ≡ length entries
  length-at j [] = refl
  length-at zero (entry ∷ rest) = refl
  length-at (suc j) (entry ∷ rest) = ap suc (length-at j rest)
