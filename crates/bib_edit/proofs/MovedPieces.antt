-- The pieces of a move, with their places.
use Rattle.bib_edit.proofs.Words.{◌≡◌, ℕ, zero, suc, ◌+◌, ◌<◌, ◌≤◌, nat_lt, Bool, true, List, [], ◌∷◌, ◌++◌, Some, find, slice_get, insert, length, map, take, drop, ⊎_elim, refl, sym, ◌∙◌, ap, ap₂, arith, length-append, zero-add, le_of_suc-le-suc, not-suc-le-zero, flat_map, option_map_or}
use Rattle.bib_edit.proofs.Words.{cases_Bool, cond-true, cond-false, ltb-true, ltb-false, slice_get_within, Text, Tree, tree_bytes, Item, Reading, item_bytes, Piece, Chunk, Kept, Replaced, pieces_from, pieces_of_chunks, MoveEntry, is_entry, in_line, line_end, kept_item, kept_items, groups_without, inserted, moved, pieces_of, made_base}
use Rattle.bib_edit.proofs.Words.{IsFirstAt, body_at, removal_of, insertion_of, line_of, moved_pieces}
use Rattle.edit_spec.specs.EditChunks.{groups_without_item, item_moved}
use Rattle.bib_edit.proofs.PiecePlaces.{items_bytes}
use Rattle.bib_edit.proofs.PieceLists.{pieces-after_items, pieces-kept_items}

-- the first item that passes the test, itself
pub first-item : (test : Tree → Bool) (items : List Item) (n : ℕ) → IsFirstAt test items n →
    (item : Item) × (find (λ item. test item.tree) items ≡ Some item) × (slice_get items n ≡ Some item) × (test item.tree ≡ true)
first-item test [] n f = absurd f
first-item test (item ∷ items) zero f = (item, cond-true (test item.tree) (Some item) (find (λ item. test item.tree) items) f, refl, f)
first-item test (item ∷ items) (suc n) f =
    let rest = first-item test items n f.1 in
    (rest.0, cond-false (test item.tree) (Some item) (find (λ item. test item.tree) items) f.0 ∙ rest.1, rest.2, rest.3)

abbrev all_of : List (List Chunk) → List Chunk
all_of groups = flat_map (λ chunks. chunks) groups

abbrev single : Item → List Chunk
single kept = kept_item kept ∷ []

singles : (items : List Item) → all_of (map single items) ≡ kept_items items
singles [] = refl
singles (item ∷ items) = ap (λ l. kept_item item ∷ l) (singles items)

singles-with : (items : List Item) (place : ℕ) (new : List Chunk) → all_of (insert (map single items) place new) ≡ kept_items (take place items) ++ (new ++ kept_items (drop place items))
singles-with items zero new = ap (λ l. new ++ l) (singles items)
singles-with [] (suc place) new = refl
singles-with (item ∷ items) (suc place) new = ap (λ l. kept_item item ∷ l) (singles-with items place new)

-- a piece that takes old bytes out, and one that puts new bytes in
abbrev out_at : ℕ → Text → Piece
out_at at old = record { place = at; old = old; new = [] }

abbrev in_at : ℕ → Text → Piece
in_at at new = record { place = at; old = []; new = new }

module _ (text : Text) where
  abbrev new : List Chunk
  new = Replaced [] text ∷ []

  abbrev chunks_at : ℕ → List Chunk × List (List Chunk) → List Chunk
  chunks_at place groups = groups.0 ++ all_of (insert groups.1 place new)

  abbrev chunks_alone : List Chunk × List (List Chunk) → List Chunk
  chunks_alone groups = groups.0 ++ all_of groups.1

  -- the item's bytes go, and nothing comes
  alone : (at : ℕ) (items : List Item) (n : ℕ) → n < length items →
      pieces_from at (chunks_alone (groups_without_item n items)) ≡ out_at (at + length (items_bytes (take n items))) (body_at items n) ∷ []
  alone at [] n within = absurd (not-suc-le-zero within)
  alone at (item ∷ items) zero within =
      let here : at ≡ at + 0 = omega arith in
      ap (λ l. out_at at (tree_bytes item.tree) ∷ pieces_from (at + length (tree_bytes item.tree) + length item.trail) l) (singles items)
      ∙ ap (λ l. out_at at (tree_bytes item.tree) ∷ l) (pieces-kept_items (at + length (tree_bytes item.tree) + length item.trail) items)
      ∙ ap (λ k. out_at k (tree_bytes item.tree) ∷ []) here
  alone at (item ∷ items) (suc n) within =
      let long = length-append (item_bytes item) (items_bytes (take n items)) in
      let same : at + length (item_bytes item) + length (items_bytes (take n items)) ≡ at + length (items_bytes (take (suc n) (item ∷ items))) = omega (arith, long) in
      alone (at + length (item_bytes item)) items n (le_of_suc-le-suc within)
      ∙ ap (λ k. out_at k (body_at items n) ∷ []) same

  -- the place is before the item
  before : (at : ℕ) (items : List Item) (n place : ℕ) → n < length items → place < n →
      pieces_from at (chunks_at place (groups_without_item n items))
      ≡ in_at (at + length (items_bytes (take place items))) text ∷ out_at (at + length (items_bytes (take n items))) (body_at items n) ∷ []
  before at [] n place within lt = absurd (not-suc-le-zero within)
  before at (item ∷ items) zero place within lt = absurd (not-suc-le-zero lt)
  before at (item ∷ items) (suc n) zero within lt =
      let long = length-append (item_bytes item) (items_bytes (take n items)) in
      let here : at ≡ at + 0 = omega arith in
      let same : at + 0 + length (item_bytes item) + length (items_bytes (take n items)) ≡ at + length (items_bytes (take (suc n) (item ∷ items))) = omega (arith, long) in
      ap (λ l. in_at at text ∷ l) (alone (at + 0 + length (item_bytes item)) items n (le_of_suc-le-suc within))
      ∙ ap₂ (λ k j. in_at k text ∷ out_at j (body_at items n) ∷ []) here same
  before at (item ∷ items) (suc n) (suc place) within lt =
      let long = length-append (item_bytes item) (items_bytes (take n items)) in
      let long_in = length-append (item_bytes item) (items_bytes (take place items)) in
      let same : at + length (item_bytes item) + length (items_bytes (take n items)) ≡ at + length (items_bytes (take (suc n) (item ∷ items))) = omega (arith, long) in
      let same_in : at + length (item_bytes item) + length (items_bytes (take place items)) ≡ at + length (items_bytes (take (suc place) (item ∷ items))) = omega (arith, long_in) in
      before (at + length (item_bytes item)) items n place (le_of_suc-le-suc within) (le_of_suc-le-suc lt)
      ∙ ap₂ (λ k j. in_at k text ∷ out_at j (body_at items n) ∷ []) same_in same

  -- the place is that of the item, or after it
  after : (at : ℕ) (items : List Item) (n place : ℕ) → n < length items → n ≤ place →
      pieces_from at (chunks_at place (groups_without_item n items))
      ≡ out_at (at + length (items_bytes (take n items))) (body_at items n) ∷ in_at (at + length (items_bytes (take (suc place) items))) text ∷ []
  after at [] n place within le = absurd (not-suc-le-zero within)
  after at (item ∷ items) zero place within le =
      let inside : ℕ = at + length (tree_bytes item.tree) + length item.trail in
      let here : at ≡ at + 0 = omega arith in
      let own = length-append (tree_bytes item.tree) item.trail in
      let long = length-append (item_bytes item) (items_bytes (take place items)) in
      let same : at + length (tree_bytes item.tree) + length item.trail + length (items_bytes (take place items)) ≡ at + length (items_bytes (take (suc place) (item ∷ items))) = omega (arith, own, long) in
      ap (λ l. out_at at (tree_bytes item.tree) ∷ pieces_from inside l) (singles-with items place new)
      ∙ ap (λ l. out_at at (tree_bytes item.tree) ∷ l) (pieces-after_items inside (take place items) (new ++ kept_items (drop place items))
      ∙ ap (λ l. in_at (inside + length (items_bytes (take place items))) text ∷ l) (pieces-kept_items (inside + length (items_bytes (take place items)) + 0) (drop place items)))
      ∙ ap₂ (λ k j. out_at k (tree_bytes item.tree) ∷ in_at j text ∷ []) here same
  after at (item ∷ items) (suc n) zero within le = absurd (not-suc-le-zero le)
  after at (item ∷ items) (suc n) (suc place) within le =
      let long = length-append (item_bytes item) (items_bytes (take n items)) in
      let long_in = length-append (item_bytes item) (items_bytes (take (suc place) items)) in
      let same : at + length (item_bytes item) + length (items_bytes (take n items)) ≡ at + length (items_bytes (take (suc n) (item ∷ items))) = omega (arith, long) in
      let same_in : at + length (item_bytes item) + length (items_bytes (take (suc place) items)) ≡ at + length (items_bytes (take (suc (suc place)) (item ∷ items))) = omega (arith, long_in) in
      after (at + length (item_bytes item)) items n place (le_of_suc-le-suc within) (le_of_suc-le-suc le)
      ∙ ap₂ (λ k j. out_at k (body_at items n) ∷ in_at j text ∷ []) same same_in

-- the pieces of a move of item n
pub move-pieces_at : (db : Reading) (n place : ℕ) (item : Item) → slice_get db.items n ≡ Some item → pieces_of_chunks (Kept db.front ∷ item_moved n place db.items item) ≡ moved_pieces db n place
move-pieces_at db n place item at =
    let within = slice_get_within db.items n item at in
    let text : item_bytes (in_line item.tree) ≡ line_of db n = sym (ap (λ o. option_map_or (λ i. tree_bytes i.tree) o [] ++ line_end) at) in
    let start : 0 + length db.front ≡ length db.front = zero-add (length db.front) in
    ap₂ (λ (k : ℕ) (t : Text). pieces_from k ((groups_without_item n db.items).0 ++ all_of (insert (groups_without_item n db.items).1 place (Replaced [] t ∷ [])))) start text
    ∙ ⊎_elim
    (λ t. before (line_of db n) (length db.front) db.items n place within (ltb-true place n t)
    ∙ sym (cond-true (nat_lt place n) (insertion_of db place (line_of db n) ∷ removal_of db n ∷ []) (removal_of db n ∷ insertion_of db (place + 1) (line_of db n) ∷ []) t))
    (λ t. after (line_of db n) (length db.front) db.items n place within (ltb-false place n t)
    ∙ (let more : suc place ≡ place + 1 = omega arith in ap (λ k. removal_of db n ∷ insertion_of db k (line_of db n) ∷ []) more)
    ∙ sym (cond-false (nat_lt place n) (insertion_of db place (line_of db n) ∷ removal_of db n ∷ []) (removal_of db n ∷ insertion_of db (place + 1) (line_of db n) ∷ []) t))
    (cases_Bool (nat_lt place n))

-- ---- the first that passes a test

module _ (test : Tree → Bool) where
  abbrev gone : Item → List Item → List Chunk × List (List Chunk)
  gone item items = (Replaced (tree_bytes item.tree) [] ∷ Kept item.trail ∷ [], map single items)

  abbrev stays : Item → List Chunk × List (List Chunk) → List Chunk × List (List Chunk)
  stays item rest = ([], (kept_item item ∷ rest.0) ∷ rest.1)

  groups-first : (items : List Item) (n : ℕ) → IsFirstAt test items n → groups_without test items ≡ groups_without_item n items
  groups-first [] n f = absurd f
  groups-first (item ∷ items) zero f = cond-true (test item.tree) (gone item items) (stays item (groups_without test items)) f
  groups-first (item ∷ items) (suc n) f = cond-false (test item.tree) (gone item items) (stays item (groups_without test items)) f.0 ∙ ap (stays item) (groups-first items n f.1)

-- the pieces of a move, where the entry is item n
pub move-pieces : (key : Text) (db : Reading) (n place : ℕ) → IsFirstAt (is_entry key) db.items n → pieces_of made_base db (MoveEntry key place) ≡ moved_pieces db n place
move-pieces key db n place f =
    let item = first-item (is_entry key) db.items n f in
    let groups = groups-first (is_entry key) db.items n f in
    ap (λ o. pieces_from (0 + length db.front) (option_map_or (moved key place db.items) o (kept_items db.items))) item.1
    ∙ ap (λ (g : List Chunk × List (List Chunk)). pieces_from (0 + length db.front) (g.0 ++ all_of (insert g.1 place (inserted (in_line item.0.tree))))) groups
    ∙ move-pieces_at db n place item.0 item.2
