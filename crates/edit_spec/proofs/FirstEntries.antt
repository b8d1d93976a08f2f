-- One entry of a file is changed, the first that a key names: what the entries say then, and what stays.
use Rattle.edit_spec.proofs.Words.{◌≡◌, ◌==◌, ℕ, zero, suc, Bool, true, false, List, ◌∷◌, ◌++◌, Option, Some, None, option_map, slice_get, ⊎_elim, refl, sym, ◌∙◌, ap, length, option_map_or, eq-eqb, arith, cases_Bool, both_ways, Text, Entry, Tree, CommentTree, DefinitionTree, PreambleTree, EntryTree, Item, Macros, raw_text, macros_after, macros_at, gathered}
use Rattle.edit_spec.proofs.Words.{EntryTexts, texts_of, entry_in, preamble_in, keys_of, is_named, first_named, is_entry, from_first, with_first_tree, of_entry}
use Rattle.std.proofs.Common.{[], if◌then◌else◌, eqb-true, ne_eqb}

-- the number is the one that was found
abbrev pub is_number : Option ℕ → ℕ → Bool
is_number found n = option_map_or (λ m. m == n) found false

number-first : (o : Option ℕ) → is_number (option_map suc o) zero ≡ false
number-first None = refl
number-first (Some m) = ne_eqb (suc m) zero (omega arith)

pub number-later : (o : Option ℕ) (n : ℕ) → is_number (option_map suc o) (suc n) ≡ is_number o n
number-later None n = refl
number-later (Some m) n = ⊎_elim
    (λ t. eq-eqb (suc m) (suc n) (ap suc (eqb-true m n t)) ∙ sym t)
    (λ f. ne_eqb (suc m) (suc n) (λ e. differ m n f e) ∙ sym f)
    (cases_Bool (m == n))
  where
    differ : (m n : ℕ) → (m == n) ≡ false → suc m ≡ suc n → ⊥
    differ m n f e = both_ways (m == n) f (eq-eqb m n (omega (arith, e)))

-- the macros that an item gives do not read entries
pub macros-of_entry : (change : Entry → Entry) (m : Macros) (tree : Tree) → macros_after m (of_entry change tree) ≡ macros_after m tree
macros-of_entry change m (CommentTree h) = refl
macros-of_entry change m (PreambleTree p) = refl
macros-of_entry change m (DefinitionTree d) = refl
macros-of_entry change m (EntryTree e) = refl

module _ (key : Text) (change : Entry → Entry) (become : EntryTexts → EntryTexts) (texts : (m : Macros) (e : Entry) → texts_of m (change e) ≡ become (texts_of m e)) where
  abbrev new_items : List Item → List Item
  new_items items = from_first (is_entry key) (with_first_tree (of_entry change)) items

  -- the entries, where the first that the key names is changed
  abbrev pub first_changed : List EntryTexts → List EntryTexts
  first_changed [] = []
  first_changed (entry ∷ rest) = if is_named key entry.key then become entry ∷ rest else entry ∷ first_changed rest

  pub entries-changed : (items : List Item) (m : Macros) → gathered entry_in m (new_items items) ≡ first_changed (gathered entry_in m items)
  entries-changed [] m = refl
  entries-changed (item ∷ items) m = by_tree (entries-changed items) item.tree
    where
      by_tree : ((m : Macros) → gathered entry_in m (new_items items) ≡ first_changed (gathered entry_in m items)) → (tree : Tree) →
          gathered entry_in m (if is_entry key tree then record { tree = of_entry change tree; trail = item.trail } ∷ items else record { tree = tree; trail = item.trail } ∷ new_items items)
          ≡ first_changed (entry_in m tree ++ gathered entry_in (macros_after m tree) items)
      by_tree rest (CommentTree h) = rest m
      by_tree rest (PreambleTree p) = rest m
      by_tree rest (DefinitionTree d) = rest (macros_after m (DefinitionTree d))
      by_tree rest (EntryTree e) = by_test (rest m) (is_named key e.key)
        where
          by_test : gathered entry_in m (new_items items) ≡ first_changed (gathered entry_in m items) → (b : Bool) →
              gathered entry_in m (if b then record { tree = EntryTree (change e); trail = item.trail } ∷ items else record { tree = EntryTree e; trail = item.trail } ∷ new_items items)
              ≡ (if b then become (texts_of m e) ∷ gathered entry_in m items else texts_of m e ∷ first_changed (gathered entry_in m items))
          by_test rest true = ap (λ entry. entry ∷ gathered entry_in m items) (texts m e)
          by_test rest false = ap (λ entries. texts_of m e ∷ entries) rest

  pub preambles-kept : (items : List Item) (m : Macros) → gathered preamble_in m (new_items items) ≡ gathered preamble_in m items
  preambles-kept [] m = refl
  preambles-kept (item ∷ items) m = by_tree (preambles-kept items) item.tree
    where
      by_tree : ((m : Macros) → gathered preamble_in m (new_items items) ≡ gathered preamble_in m items) → (tree : Tree) →
          gathered preamble_in m (if is_entry key tree then record { tree = of_entry change tree; trail = item.trail } ∷ items else record { tree = tree; trail = item.trail } ∷ new_items items)
          ≡ preamble_in m tree ++ gathered preamble_in (macros_after m tree) items
      by_tree rest (CommentTree h) = rest m
      by_tree rest (PreambleTree p) = ap (λ preambles. raw_text m p.value ∷ preambles) (rest m)
      by_tree rest (DefinitionTree d) = rest (macros_after m (DefinitionTree d))
      by_tree rest (EntryTree e) = by_test (rest m) (is_named key e.key)
        where
          by_test : gathered preamble_in m (new_items items) ≡ gathered preamble_in m items → (b : Bool) →
              gathered preamble_in m (if b then record { tree = EntryTree (change e); trail = item.trail } ∷ items else record { tree = EntryTree e; trail = item.trail } ∷ new_items items)
              ≡ gathered preamble_in m items
          by_test rest true = refl
          by_test rest false = rest

  pub macros-kept : (items : List Item) (m : Macros) (k : ℕ) → macros_at m (new_items items) k ≡ macros_at m items k
  macros-kept [] m k = refl
  macros-kept (item ∷ items) m k = by_test (macros-kept items) (is_entry key item.tree) k
    where
      by_test : ((m : Macros) (k : ℕ) → macros_at m (new_items items) k ≡ macros_at m items k) → (b : Bool) (k : ℕ) →
          macros_at m (if b then record item { tree = of_entry change item.tree } ∷ items else item ∷ new_items items) k ≡ macros_at m (item ∷ items) k
      by_test rest true zero = refl
      by_test rest false zero = refl
      by_test rest true (suc k) = ap (λ after. macros_at after items k) (macros-of_entry change m item.tree)
      by_test rest false (suc k) = rest (macros_after m item.tree) k

  -- ---- each entry by its number

  -- an entry, changed if it is the one
  abbrev pub become_if : Bool → EntryTexts → EntryTexts
  become_if b entry = if b then become entry else entry

  unchanged : (o : Option EntryTexts) → option_map (become_if false) o ≡ o
  unchanged None = refl
  unchanged (Some entry) = refl

  pub entry-changed : (entries : List EntryTexts) (n : ℕ) →
      slice_get (first_changed entries) n ≡ option_map (become_if (is_number (first_named key (keys_of entries)) n)) (slice_get entries n)
  entry-changed [] n = refl
  entry-changed (entry ∷ rest) n = by_test (entry-changed rest) (is_named key entry.key) n
    where
      by_test : ((n : ℕ) → slice_get (first_changed rest) n ≡ option_map (become_if (is_number (first_named key (keys_of rest)) n)) (slice_get rest n)) → (b : Bool) (n : ℕ) →
          slice_get (if b then become entry ∷ rest else entry ∷ first_changed rest) n
          ≡ option_map (become_if (is_number (if b then Some zero else option_map suc (first_named key (keys_of rest))) n)) (slice_get (entry ∷ rest) n)
      by_test later true zero = ap (λ b. Some (become_if b entry)) (sym (eq-eqb zero zero refl))
      by_test later true (suc n) = sym (ap (λ b. option_map (become_if b) (slice_get rest n)) (ne_eqb zero (suc n) (omega arith)) ∙ unchanged (slice_get rest n))
      by_test later false zero = ap (λ b. Some (become_if b entry)) (sym (number-first (first_named key (keys_of rest))))
      by_test later false (suc n) = later n ∙ ap (λ b. option_map (become_if b) (slice_get rest n)) (sym (number-later (first_named key (keys_of rest)) n))

  module _ (key_kept : (entry : EntryTexts) → (become entry).key ≡ entry.key) where
    pub keys-kept : (entries : List EntryTexts) → keys_of (first_changed entries) ≡ keys_of entries
    keys-kept [] = refl
    keys-kept (entry ∷ rest) = by_test (keys-kept rest) (is_named key entry.key)
      where
        by_test : keys_of (first_changed rest) ≡ keys_of rest → (b : Bool) → keys_of (if b then become entry ∷ rest else entry ∷ first_changed rest) ≡ keys_of (entry ∷ rest)
        by_test later true = ap (λ k. k ∷ keys_of rest) (key_kept entry)
        by_test later false = ap (λ keys. entry.key ∷ keys) later

  pub length-kept : (entries : List EntryTexts) → length (first_changed entries) ≡ length entries
  length-kept [] = refl
  length-kept (entry ∷ rest) = by_test (length-kept rest) (is_named key entry.key)
    where
      by_test : length (first_changed rest) ≡ length rest → (b : Bool) → length (if b then become entry ∷ rest else entry ∷ first_changed rest) ≡ length (entry ∷ rest)
      by_test later true = refl
      by_test later false = ap suc later
