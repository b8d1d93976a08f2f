-- The pieces of a new key that one entry gets, among several with its key: those of the first, and those of a later one, which no
-- crossref names.
use Rattle.bib_edit.proofs.Words.{◌≡◌, ℕ, zero, suc, ◌+◌, ◌<◌, ◌==◌, List, [], ◌∷◌, ◌++◌, Option, Some, None, slice_get, length, take, option_and_then, option_map_or, ⊎_elim, refl, sym, ◌∙◌, ap, ap₂, arith, zero-add, length-append, ne_eqb, eq-eqb, cases_Bool, cond-true, cond-false, none-some, same_Some, Text, tree_bytes, Item, Reading, item_bytes}
use Rattle.bib_edit.proofs.Words.{EntryTexts, entries_of, entry_named, target, Entry, EntryTree, Kept, pieces_from, pieces_of_chunks, View, view_of, start_of, is_entry_tree, entry_items, length-entry_items, first_item, is_entry, key_chunks, key_for, kept_items, pieces_of, made_base, key_piece, crossref_piece, entry_item, rekeying, NewKeys}
use Rattle.edit_spec.specs.Edits.{Which, RenamesKey, ChangeEntry, item_meant, entry_meant}
use Rattle.edit_spec.specs.EditChunks.{entry_chunked}
use Rattle.bib_edit.proofs.PiecePlaces.{items_bytes}
use Rattle.bib_edit.proofs.KeyPieces.{keyed_chunks, pieces-other, pieces-more, entry-is}
use Rattle.bib_edit.proofs.MeantTexts.{IsMeantEntry, meant-entry}
use Rattle.bib_edit.proofs.MeantParents.{first-number, later-no_target}
use Rattle.bib_edit.proofs.RenamedKeys.{key_of-one}

-- where the items after this one begin
next_place : (start : ℕ) (item : Item) (rest : List Item) → start + (length (tree_bytes item.tree) + length item.trail) + length (items_bytes rest) ≡ start + length (items_bytes (item ∷ rest))
next_place start item rest =
    let own = length-append (tree_bytes item.tree) item.trail in
    let long = length-append (item_bytes item) (items_bytes rest) in
    omega (arith, own, long)

-- ---- entry m alone gets a key, and is no target

module _ (to : Text) (entries : List EntryTexts) (m : ℕ) (unnamed : (n : ℕ) → target entries n ≡ Some m → ⊥) where
  abbrev new : ℕ → Option Text
  new = key_for (Some m) to

  other_key : (k : ℕ) → (k ≡ m → ⊥) → new k ≡ None
  other_key k other = cond-false (m == k) (Some to) None (ne_eqb m k (λ e. other (sym e)))

  its_key : (k : ℕ) → m ≡ k → new k ≡ Some to
  its_key k is = cond-true (m == k) (Some to) None (eq-eqb m k is)

  no_crossref : (n : ℕ) → option_and_then new (target entries n) ≡ None
  no_crossref n = of_target (target entries n) (unnamed n)
    where
      of_target : (o : Option ℕ) → (o ≡ Some m → ⊥) → option_and_then new o ≡ None
      of_target None other = refl
      of_target (Some t) other = other_key t (λ e. other (ap Some e))

  -- entries after it get no pieces
  none_later : (start k : ℕ) (items : List Item) → m < k → pieces_from start (keyed_chunks new entries k items) ≡ []
  none_later start k [] lt = refl
  none_later start k (item ∷ items) lt = ⊎_elim
      (λ t.
      let it = entry-is item t in
      let end : ℕ = start + (length (tree_bytes (EntryTree it.0)) + length item.trail) in
      ap (λ (i : Item). pieces_from start (keyed_chunks new entries k (i ∷ items))) it.1
      ∙ pieces-more new entries start k it.0 item.trail items
      ∙ ap₂ (λ (key named : Option Text). (key_piece start (view_of (entry_item it.0 item.trail)) key ++ crossref_piece start (view_of (entry_item it.0 item.trail)) named) ++ pieces_from end (keyed_chunks new entries (k + 1) items))
      (other_key k (λ e. omega (arith, e, lt))) (no_crossref k)
      ∙ none_later end (k + 1) items (omega (arith, lt)))
      (λ f. pieces-other new entries start k item items f ∙ none_later (start + (length (tree_bytes item.tree) + length item.trail)) k items lt)
      (cases_Bool (is_entry_tree item.tree))

  -- it gets its own piece
  pub alone : (start k n : ℕ) (items : List Item) (e : Entry) (trail : Text) → slice_get items n ≡ Some (entry_item e trail) → m ≡ k + length (entry_items (take n items)) →
      pieces_from start (keyed_chunks new entries k items) ≡ key_piece (start + length (items_bytes (take n items))) (view_of (entry_item e trail)) (Some to)
  alone start k n [] e trail at is = absurd (none-some (entry_item e trail) at)
  alone start k zero (item ∷ items) e trail at is =
      let end : ℕ = start + (length (tree_bytes (EntryTree e)) + length trail) in
      let here : start ≡ start + 0 = omega arith in
      let own : m ≡ k + 0 = is in
      ap (λ (i : Item). pieces_from start (keyed_chunks new entries k (i ∷ items))) (same_Some item (entry_item e trail) at)
      ∙ pieces-more new entries start k e trail items
      ∙ ap₂ (λ (key named : Option Text). (key_piece start (view_of (entry_item e trail)) key ++ crossref_piece start (view_of (entry_item e trail)) named) ++ pieces_from end (keyed_chunks new entries (k + 1) items))
      (its_key k (omega (arith, own))) (no_crossref k)
      ∙ ap (λ ps. key_piece start (view_of (entry_item e trail)) (Some to) ++ ps) (none_later end (k + 1) items (omega (arith, own)))
      ∙ ap (λ (s : ℕ). key_piece s (view_of (entry_item e trail)) (Some to)) here
  alone start k (suc n) (item ∷ items) e trail at is = ⊎_elim
      (λ t.
      let it = entry-is item t in
      let count : m ≡ k + suc (length (entry_items (take n items))) = is ∙ ap (λ (l : List Item). k + length l) (cond-true (is_entry_tree item.tree) (item ∷ entry_items (take n items)) (entry_items (take n items)) t) in
      let end : ℕ = start + (length (tree_bytes (EntryTree it.0)) + length item.trail) in
      ap (λ (i : Item). pieces_from start (keyed_chunks new entries k (i ∷ items))) it.1
      ∙ pieces-more new entries start k it.0 item.trail items
      ∙ ap₂ (λ (key named : Option Text). (key_piece start (view_of (entry_item it.0 item.trail)) key ++ crossref_piece start (view_of (entry_item it.0 item.trail)) named) ++ pieces_from end (keyed_chunks new entries (k + 1) items))
      (other_key k (λ e. omega (arith, e, count))) (no_crossref k)
      ∙ alone end (k + 1) n items e trail at (omega (arith, count))
      ∙ ap (λ (s : ℕ). key_piece s (view_of (entry_item e trail)) (Some to))
      (ap (λ (i : Item). start + (length (tree_bytes i.tree) + length item.trail) + length (items_bytes (take n items))) (sym it.1) ∙ next_place start item (take n items)))
      (λ f.
      let count : m ≡ k + length (entry_items (take n items)) = is ∙ ap (λ (l : List Item). k + length l) (cond-false (is_entry_tree item.tree) (item ∷ entry_items (take n items)) (entry_items (take n items)) f) in
      pieces-other new entries start k item items f
      ∙ alone (start + (length (tree_bytes item.tree) + length item.trail)) k n items e trail at count
      ∙ ap (λ (s : ℕ). key_piece s (view_of (entry_item e trail)) (Some to)) (next_place start item (take n items)))
      (cases_Bool (is_entry_tree item.tree))

-- ---- the entry that is meant

module _ (key : Which) (db : Reading) (to : Text) (n : ℕ) (found : item_meant key db.items ≡ Some n) where
  it : IsMeantEntry key db n
  it = meant-entry key db n found

  chunked : pieces_of made_base db (ChangeEntry key (RenamesKey to)) ≡ pieces_of_chunks (Kept db.front ∷ key_chunks (key_for (entry_meant key (entries_of db)) to) db)
  chunked = ap (λ o. pieces_of_chunks (Kept db.front ∷ option_map_or (entry_chunked key (RenamesKey to) db) o (kept_items db.items))) found

  -- it is the first that the key names
  pub first-rekeyed : (new : NewKeys) (m : ℕ) → first_item (is_entry key.name) db.items ≡ Some n → entry_named (entries_of db) key.name ≡ Some m → new.first ≡ m → new.keys ≡ to ∷ [] →
      rekeying new db ≡ pieces_of made_base db (ChangeEntry key (RenamesKey to))
  first-rekeyed new m first named at keys =
      let meant : entry_meant key (entries_of db) ≡ Some m = it.number ∙ ap Some (sym (first-number key.name db n m first named)) in
      ap (λ (k : ℕ → Option Text). pieces_of_chunks (Kept db.front ∷ key_chunks k db)) (key_of-one new m to at keys ∙ ap (λ o. key_for o to) (sym meant)) ∙ sym chunked

  -- it is a later one
  pub later-rekeyed : (first_item (is_entry key.name) db.items ≡ Some n → ⊥) → (view : View) → ((i : Item) → slice_get db.items n ≡ Some i → view ≡ view_of i) →
      key_piece (start_of db n) view (Some to) ≡ pieces_of made_base db (ChangeEntry key (RenamesKey to))
  later-rekeyed later view seen =
      let m : ℕ = length (entry_items (take n db.items)) in
      let before : Reading = record { front = db.front; items = take n db.items } in
      let meant : entry_meant key (entries_of db) ≡ Some m = it.number ∙ ap Some (sym (length-entry_items before)) in
      let start : 0 + length db.front ≡ length db.front = zero-add (length db.front) in
      sym (chunked
      ∙ ap (λ o. pieces_of_chunks (Kept db.front ∷ key_chunks (key_for o to) db)) meant
      ∙ ap (λ (s : ℕ). pieces_from s (keyed_chunks (key_for (Some m) to) (entries_of db) 0 db.items)) start
      ∙ alone to (entries_of db) m (later-no_target key db n found later m meant) (length db.front) 0 n db.items it.entry it.trail it.at (sym (zero-add m))
      ∙ ap (λ (v : View). key_piece (start_of db n) v (Some to)) (sym (seen (entry_item it.entry it.trail) it.at)))
