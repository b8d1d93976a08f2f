-- The member of a list that is meant by its number among those that pass a test.
use Rattle.edit_spec.proofs.Words.{◌≡◌, ℕ, zero, suc, Bool, true, false, List, ◌∷◌, Option, Some, None, option_map, slice_get, length, take, ⊎_elim, refl, sym, ◌∙◌, ap, subst, cases_Bool, cond-true, cond-false, none-some, same_Some, Text, Entry, Tree, CommentTree, DefinitionTree, PreambleTree, EntryTree, Item, Macros, macros_after, gathered, entry_in, keys_of, is_named, is_entry}
use Rattle.edit_spec.proofs.Words.{option_and_then, option_map_or, option_cases, Reading, Record, months, entries_of, NotFound, IsAccepted}
use Rattle.std.proofs.Common.{[], if◌then◌else◌}
use Rattle.bib_spec.proofs.Places.{suc_some}
use Rattle.edit_spec.specs.Edits.{Which, EntryChange, ChangeEntry, nth_of, number_of, item_meant, entry_meant, lacks}

-- what is found passes the test
pub nth_of-at : {X : Type 0} (test : X → Bool) (k : ℕ) (xs : List X) (n : ℕ) → nth_of test k xs ≡ Some n → (x : X) × (slice_get xs n ≡ Some x) × (test x ≡ true)
nth_of-at test k [] n e = absurd (none-some n e)
nth_of-at test zero (x ∷ xs) n e = ⊎_elim
    (λ t.
    let at : zero ≡ n = same_Some zero n (sym (cond-true (test x) (Some zero) (option_map suc (nth_of test zero xs)) t) ∙ e) in
    (x, subst (λ i. slice_get (x ∷ xs) i ≡ Some x) at refl, t))
    (λ f.
    let later = suc_some (nth_of test zero xs) n (sym (cond-false (test x) (Some zero) (option_map suc (nth_of test zero xs)) f) ∙ e) in
    let rest = nth_of-at test zero xs later.0 later.1 in
    (rest.0, subst (λ i. slice_get (x ∷ xs) i ≡ Some rest.0) later.2 rest.1, rest.2))
    (cases_Bool (test x))
nth_of-at test (suc k) (x ∷ xs) n e =
    let later = suc_some (nth_of test (if test x then k else suc k) xs) n e in
    let rest = nth_of-at test (if test x then k else suc k) xs later.0 later.1 in
    (rest.0, subst (λ i. slice_get (x ∷ xs) i ≡ Some rest.0) later.2 rest.1, rest.2)

-- the member with the number of the one that is meant passes the test too
pub meant-is : {X : Type 0} (test : X → Bool) (k : ℕ) (xs : List X) (n : ℕ) → nth_of test k xs ≡ Some n → (x : X) → slice_get xs n ≡ Some x → test x ≡ true
meant-is test k xs n e x at = let it = nth_of-at test k xs n e in ap test (same_Some x it.0 (sym at ∙ it.1)) ∙ it.2

-- ---- items and entries

twice : (f : ℕ → ℕ) (o : Option ℕ) → option_map f (option_map suc o) ≡ option_map (λ n. f (suc n)) o
twice f None = refl
twice f (Some n) = refl

once_more : (f : ℕ → ℕ) (o : Option ℕ) → option_map suc (option_map f o) ≡ option_map (λ n. suc (f n)) o
once_more f None = refl
once_more f (Some n) = refl

-- the number of the member, if the first passes the test or does not
abbrev nth_with : {X : Type 0} → (X → Bool) → Bool → ℕ → List X → Option ℕ
nth_with test b zero xs = if b then Some 0 else option_map suc (nth_of test zero xs)
nth_with test b (suc k) xs = option_map suc (nth_of test (if b then k else suc k) xs)

module _ (name : Text) where
  abbrev is_its : Item → Bool
  is_its item = is_entry name item.tree

  -- how many entries come before an item
  abbrev entries_to : Macros → List Item → ℕ → ℕ
  entries_to m items n = length (gathered entry_in m (take n items))

  abbrev Alike : ℕ → Macros → List Item → Type 0
  Alike k m items = nth_of (is_named name) k (keys_of (gathered entry_in m items)) ≡ option_map (entries_to m items) (nth_of is_its k items)

  other_first : (m : Macros) (first : Item) (items : List Item) (k : ℕ) → nth_of (is_named name) k (keys_of (gathered entry_in (macros_after m first.tree) items)) ≡ option_map (λ n. entries_to m (first ∷ items) (suc n)) (nth_of is_its k items) →
      nth_of (is_named name) k (keys_of (gathered entry_in (macros_after m first.tree) items)) ≡ option_map (entries_to m (first ∷ items)) (option_map suc (nth_of is_its k items))
  other_first m first items k h = h ∙ sym (twice (entries_to m (first ∷ items)) (nth_of is_its k items))

  -- one more entry comes before the items after an entry
  one_entry_more : (m : Macros) (e : Entry) (trail : Text) (items : List Item) → ((k : ℕ) (m : Macros) → Alike k m items) → (k : ℕ) →
      (let first : Item = record { tree = EntryTree e; trail = trail } in
      option_map suc (nth_of (is_named name) k (keys_of (gathered entry_in m items))) ≡ option_map (entries_to m (first ∷ items)) (option_map suc (nth_of is_its k items)))
  one_entry_more m e trail items rest k =
      let first : Item = record { tree = EntryTree e; trail = trail } in
      ap (option_map suc) (rest k m) ∙ once_more (entries_to m items) (nth_of is_its k items) ∙ sym (twice (entries_to m (first ∷ items)) (nth_of is_its k items))

  entry_first : (m : Macros) (e : Entry) (trail : Text) (items : List Item) → ((k : ℕ) (m : Macros) → Alike k m items) → (b : Bool) (k : ℕ) →
      (let first : Item = record { tree = EntryTree e; trail = trail } in
      nth_with (is_named name) b k (keys_of (gathered entry_in m items)) ≡ option_map (entries_to m (first ∷ items)) (nth_with is_its b k items))
  entry_first m e trail items rest true zero = refl
  entry_first m e trail items rest true (suc k) = one_entry_more m e trail items rest k
  entry_first m e trail items rest false zero = one_entry_more m e trail items rest zero
  entry_first m e trail items rest false (suc k) = one_entry_more m e trail items rest (suc k)

  first_tree : (m : Macros) (tree : Tree) (trail : Text) (items : List Item) → ((k : ℕ) (m : Macros) → Alike k m items) → (k : ℕ) →
      (let first : Item = record { tree = tree; trail = trail } in Alike k m (first ∷ items))
  first_tree m (CommentTree h) trail items rest zero = let first : Item = record { tree = CommentTree h; trail = trail } in other_first m first items zero (rest zero m)
  first_tree m (CommentTree h) trail items rest (suc k) = let first : Item = record { tree = CommentTree h; trail = trail } in other_first m first items (suc k) (rest (suc k) m)
  first_tree m (PreambleTree p) trail items rest zero = let first : Item = record { tree = PreambleTree p; trail = trail } in other_first m first items zero (rest zero m)
  first_tree m (PreambleTree p) trail items rest (suc k) = let first : Item = record { tree = PreambleTree p; trail = trail } in other_first m first items (suc k) (rest (suc k) m)
  first_tree m (DefinitionTree d) trail items rest zero =
      let first : Item = record { tree = DefinitionTree d; trail = trail } in other_first m first items zero (rest zero (macros_after m (DefinitionTree d)))
  first_tree m (DefinitionTree d) trail items rest (suc k) =
      let first : Item = record { tree = DefinitionTree d; trail = trail } in other_first m first items (suc k) (rest (suc k) (macros_after m (DefinitionTree d)))
  first_tree m (EntryTree e) trail items rest zero = entry_first m e trail items rest (is_named name e.key) zero
  first_tree m (EntryTree e) trail items rest (suc k) = entry_first m e trail items rest (is_named name e.key) (suc k)

  -- the number, among the entries, of the entry that is meant: how many entries come before it
  pub meant-number : (k : ℕ) (m : Macros) (items : List Item) →
      nth_of (is_named name) k (keys_of (gathered entry_in m items)) ≡ option_map (λ n. length (gathered entry_in m (take n items))) (nth_of (λ item. is_entry name item.tree) k items)
  meant-number k m [] = refl
  meant-number k m (first ∷ items) = first_tree m first.tree first.trail items (λ k m. meant-number k m items) k

-- ---- an accepted change

-- the entry that is meant: the number of its item, the item, and its number among the entries
pub record IsMeantIn (key : Which) (db : Reading) : Type 0 where
  pub n : ℕ
  pub found : item_meant key db.items ≡ Some n
  pub item : Item
  pub at : slice_get db.items n ≡ Some item
  pub is : is_entry key.name item.tree ≡ true
  pub numbered : entry_meant key (entries_of db) ≡ Some (length (gathered entry_in months (take n db.items)))

-- a change that is accepted has an entry to change
pub accepted-is : (key_base : Record → Text) (db : Reading) (key : Which) (change : EntryChange) → IsAccepted key_base db (ChangeEntry key change) → IsMeantIn key db
accepted-is key_base db key change accepted = ⊎_elim
    (λ none.
    let no_entry : entry_meant key (entries_of db) ≡ None = meant-number key.name (number_of key) months db.items ∙ ap (option_map (λ n. length (gathered entry_in months (take n db.items)))) none in
    absurd (accepted NotFound (ap (λ o. option_map_or (lacks change) (option_and_then (slice_get (entries_of db)) o) true) no_entry)))
    (λ some.
    let it = nth_of-at (λ (item : Item). is_entry key.name item.tree) (number_of key) db.items some.0 some.1 in
    record {
      n = some.0;
      found = some.1;
      item = it.0;
      at = it.1;
      is = it.2;
      numbered = meant-number key.name (number_of key) months db.items ∙ ap (option_map (λ n. length (gathered entry_in months (take n db.items)))) some.1;
    })
    (option_cases (item_meant key db.items))
