-- The entry that a key names, as an item: its number, and its fields.
use Rattle.bib_edit.proofs.Words.{◌≡◌, ℕ, zero, suc, ◌+◌, ◌<◌, true, List, [], ◌∷◌, Option, Some, None, option_map, option_and_then, slice_get, length, map, filter, ⊎_elim, refl, sym, ◌∙◌, ap, subst, arith, enumerate_from, cases_Bool, cond-true, cond-false, none-some, same_Some, Text, Entry, Tree}
use Rattle.bib_edit.proofs.Words.{CommentTree, DefinitionTree, PreambleTree, EntryTree, Item, Reading, Macros, months, macros_after, gathered, EntryTexts, entry_in, entries_of, texts_of, is_named, keys_of, first_named, entry_named, is_entry, suc_some, OfReading, is_entry_tree, entry_numbers}
use Rattle.bib_edit.proofs.Words.{first_item, item_named}
use Rattle.edit_spec.proofs.OneMore.{length-keys}

-- the numbers of the entries among items; the first item has this number
abbrev numbers_from : ℕ → List Item → List ℕ
numbers_from at items = map (λ p. p.0) (filter (λ p. is_entry_tree p.1.tree) (enumerate_from at items))

abbrev item_at : Tree → Text → Item
item_at tree trail = record { tree = tree; trail = trail }

module _ (key : Text) where
  abbrev entries : Macros → List Item → List EntryTexts
  entries m items = gathered entry_in m items

  abbrev entry_number : Macros → List Item → Option ℕ
  entry_number m items = first_named key (keys_of (entries m items))

  abbrev IsNumbered : ℕ → List Item → ℕ → Type 0
  IsNumbered at items k = (j : ℕ) × (first_item (is_entry key) items ≡ Some j) × (k ≡ at + j)

  numbered_after : (m : Macros) (at : ℕ) (tree : Tree) (trail : Text) (items : List Item) →
      ((n k : ℕ) → entry_number (macros_after m tree) items ≡ Some n → slice_get (numbers_from (at + 1) items) n ≡ Some k → IsNumbered (at + 1) items k) →
      (n k : ℕ) → entry_number m (item_at tree trail ∷ items) ≡ Some n → slice_get (numbers_from at (item_at tree trail ∷ items)) n ≡ Some k → IsNumbered at (item_at tree trail ∷ items) k
  numbered_after m at (CommentTree h) trail items rest n k e s = let found = rest n k e s in (suc found.0, ap (option_map suc) found.1, omega (arith, found.2))
  numbered_after m at (DefinitionTree d) trail items rest n k e s = let found = rest n k e s in (suc found.0, ap (option_map suc) found.1, omega (arith, found.2))
  numbered_after m at (PreambleTree p) trail items rest n k e s = let found = rest n k e s in (suc found.0, ap (option_map suc) found.1, omega (arith, found.2))
  numbered_after m at (EntryTree x) trail items rest n k e s = ⊎_elim
      (λ t.
      let zeroth : zero ≡ n = same_Some zero n (sym (cond-true (is_named key x.key) (Some zero) (option_map suc (entry_number m items)) t) ∙ e) in
      let here : at ≡ k = same_Some at k (ap (slice_get (at ∷ numbers_from (at + 1) items)) zeroth ∙ s) in
      (zero, cond-true (is_named key x.key) (Some zero) (option_map suc (first_item (is_entry key) items)) t, omega (arith, here)))
      (λ t.
      let later = suc_some (entry_number m items) n (sym (cond-false (is_named key x.key) (Some zero) (option_map suc (entry_number m items)) t) ∙ e) in
      let found = rest later.0 k later.1 (ap (slice_get (at ∷ numbers_from (at + 1) items)) later.2 ∙ s) in
      (suc found.0, cond-false (is_named key x.key) (Some zero) (option_map suc (first_item (is_entry key) items)) t ∙ ap (option_map suc) found.1, omega (arith, found.2)))
      (cases_Bool (is_named key x.key))

  numbered : (m : Macros) (at : ℕ) (items : List Item) (n k : ℕ) → entry_number m items ≡ Some n → slice_get (numbers_from at items) n ≡ Some k → IsNumbered at items k
  numbered m at [] n k e s = absurd (none-some n e)
  numbered m at (item ∷ items) n k e s = numbered_after m at item.tree item.trail items (numbered (macros_after m item.tree) (at + 1) items) n k e s

  -- the number among the entries leads to the number among the items
  pub named-item : (db : Reading) (n k : ℕ) → entry_named (entries_of db) key ≡ Some n → slice_get (entry_numbers db.items) n ≡ Some k → item_named key db ≡ Some k
  named-item db n k e s = let found = numbered months 0 db.items n k e s in found.1 ∙ ap Some (omega (arith, found.2))

  -- the same of the file that is open
  pub held-item : (file : Text) (n k : ℕ) → OfReading file (λ db. Some n ≡ entry_named (entries_of db) key) → OfReading file (λ db. slice_get (entry_numbers db.items) n ≡ Some k) → OfReading file (λ db. item_named key db ≡ Some k)
  held-item file n k named at db reads = named-item db n k (sym (named db reads)) (at db reads)

  pub named-within : (db : Reading) (n : ℕ) → entry_named (entries_of db) key ≡ Some n → n < length (entries_of db)
  named-within db n e = subst (λ (l : ℕ). n < l) (length-keys (entries_of db)) (found (keys_of (entries_of db)) n e)
    where
      found : (keys : List Text) (n : ℕ) → first_named key keys ≡ Some n → n < length keys
      found [] n e = absurd (none-some n e)
      found (k ∷ ks) n e = ⊎_elim
          (λ t. let zeroth = same_Some zero n (sym (cond-true (is_named key k) (Some zero) (option_map suc (first_named key ks)) t) ∙ e) in omega (arith, zeroth))
          (λ t. let later = suc_some (first_named key ks) n (sym (cond-false (is_named key k) (Some zero) (option_map suc (first_named key ks)) t) ∙ e) in
          let rest = found ks later.0 later.1 in omega (arith, rest, later.2))
          (cases_Bool (is_named key k))

  -- ---- its fields

  -- item n is an entry, and these are its texts, which the key finds
  pub record IsNamedEntry (found : Option EntryTexts) (items : List Item) (n : ℕ) : Type 0 where
    pub entry : Entry
    pub trail : Text
    pub macros : Macros
    pub at : slice_get items n ≡ Some (item_at (EntryTree entry) trail)
    pub named : is_named key entry.key ≡ true
    pub texts : found ≡ Some (texts_of macros entry)

  abbrev found_in : Macros → List Item → Option EntryTexts
  found_in m items = option_and_then (slice_get (entries m items)) (entry_number m items)

  later_entry : (x : EntryTexts) (xs : List EntryTexts) (o : Option ℕ) → option_and_then (slice_get (x ∷ xs)) (option_map suc o) ≡ option_and_then (slice_get xs) o
  later_entry x xs None = refl
  later_entry x xs (Some n) = refl

  moved : (found : Option EntryTexts) (items : List Item) (n : ℕ) (other : Option EntryTexts) (more : Item) (m : ℕ) → other ≡ found → suc n ≡ m → IsNamedEntry found items n → IsNamedEntry other (more ∷ items) m
  moved found items n other more m f e is = subst (λ (m : ℕ). IsNamedEntry other (more ∷ items) m) e (record { entry = is.entry; trail = is.trail; macros = is.macros; at = is.at; named = is.named; texts = f ∙ is.texts })

  entry_after : (m : Macros) (tree : Tree) (trail : Text) (items : List Item) → ((n : ℕ) → first_item (is_entry key) items ≡ Some n → IsNamedEntry (found_in (macros_after m tree) items) items n) →
      (n : ℕ) → first_item (is_entry key) (item_at tree trail ∷ items) ≡ Some n → IsNamedEntry (found_in m (item_at tree trail ∷ items)) (item_at tree trail ∷ items) n
  entry_after m (CommentTree h) trail items rest n e = let later = suc_some (first_item (is_entry key) items) n e in moved _ items later.0 _ _ n refl later.2 (rest later.0 later.1)
  entry_after m (DefinitionTree d) trail items rest n e = let later = suc_some (first_item (is_entry key) items) n e in moved _ items later.0 _ _ n refl later.2 (rest later.0 later.1)
  entry_after m (PreambleTree p) trail items rest n e = let later = suc_some (first_item (is_entry key) items) n e in moved _ items later.0 _ _ n refl later.2 (rest later.0 later.1)
  entry_after m (EntryTree x) trail items rest n e = ⊎_elim
      (λ t. let zeroth : zero ≡ n = same_Some zero n (sym (cond-true (is_named key x.key) (Some zero) (option_map suc (first_item (is_entry key) items)) t) ∙ e) in
      subst (λ (n : ℕ). IsNamedEntry (found_in m (item_at (EntryTree x) trail ∷ items)) (item_at (EntryTree x) trail ∷ items) n) zeroth
      (record { entry = x; trail = trail; macros = m; at = refl; named = t; texts = ap (option_and_then (slice_get (entries m (item_at (EntryTree x) trail ∷ items)))) (cond-true (is_named key x.key) (Some zero) (option_map suc (entry_number m items)) t) }))
      (λ t. let later = suc_some (first_item (is_entry key) items) n (sym (cond-false (is_named key x.key) (Some zero) (option_map suc (first_item (is_entry key) items)) t) ∙ e) in
      moved (found_in m items) items later.0 (found_in m (item_at (EntryTree x) trail ∷ items)) (item_at (EntryTree x) trail) n
      (ap (option_and_then (slice_get (entries m (item_at (EntryTree x) trail ∷ items)))) (cond-false (is_named key x.key) (Some zero) (option_map suc (entry_number m items)) t) ∙ later_entry (texts_of m x) (entries m items) (entry_number m items))
      later.2 (rest later.0 later.1))
      (cases_Bool (is_named key x.key))

  entry_found : (m : Macros) (items : List Item) (n : ℕ) → first_item (is_entry key) items ≡ Some n → IsNamedEntry (found_in m items) items n
  entry_found m [] n e = absurd (none-some n e)
  entry_found m (item ∷ items) n e = entry_after m item.tree item.trail items (entry_found (macros_after m item.tree) items) n e

  pub named-entry : (db : Reading) (n : ℕ) → item_named key db ≡ Some n → IsNamedEntry (option_and_then (slice_get (entries_of db)) (entry_named (entries_of db) key)) db.items n
  named-entry db n e = entry_found months db.items n e
