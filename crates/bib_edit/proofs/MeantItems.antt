-- An item by its number: the pieces of a change of it, and what a change of it makes of clean texts and of long ones.
use Rattle.bib_edit.proofs.Words.{◌≡◌, ◌<◌, slice_get_within, ℕ, zero, suc, ◌+◌, Bool, true, false, ◌||◌, List, [], ◌∷◌, ◌++◌, Some, None, is_some, slice_get, length, take, drop, refl, sym, ◌∙◌, ap, subst, zero-add, or-false, list_any, All, All-cons, All-head, All-tail, false≢true, none-some, same_Some, or_parts, or_from}
use Rattle.bib_edit.proofs.Words.{Text, IsCleanTrail, Entry, Tree, CommentTree, DefinitionTree, PreambleTree, EntryTree, is_comment, Item, Reading, Reads, Macros, months, macros_after, macros_at, raw_texts_in, too_long_at, Chunk, Kept, Replaced, pieces_from, pieces_of_chunks, HasCleanTexts, is_entry, of_entry, kept_item, kept_items, without_body, entry_as}
use Rattle.bib_edit.proofs.Words.{start_of, body_at, trail_at, text_before, is_after_comment, JoinsCleanly, removal_of}
use Rattle.edit_spec.specs.Edits.{Which, number_of, item_meant, with_tree_at, without_item, with_entry_at}
use Rattle.edit_spec.proofs.MeantMembers.{nth_of-at}
use Rattle.edit_spec.specs.EditChunks.{chunks_from}
use Rattle.bib_edit.proofs.PieceLists.{pieces-after_items, pieces-before_items, pieces-kept_items}
use Rattle.bib_edit.proofs.LongTexts.{is_long, any_long, too_long-any}

abbrev pub item_at : Tree → Text → Item
item_at tree trail = record { tree = tree; trail = trail }

-- the item that is meant is there
pub meant-within : (key : Which) (db : Reading) (n : ℕ) → item_meant key db.items ≡ Some n → n < length db.items
meant-within key db n found = let it = nth_of-at (λ (item : Item). is_entry key.name item.tree) (number_of key) db.items n found in slice_get_within db.items n it.0 it.1

-- ---- pieces

module _ (change : Item → List Item → List Chunk) where
  -- the items before item n are kept, and it and those after it are as said
  pub chunks-at : (n : ℕ) (items : List Item) (item : Item) → slice_get items n ≡ Some item → chunks_from n change items ≡ kept_items (take n items) ++ change item (drop (suc n) items)
  chunks-at n [] item at = absurd (none-some item at)
  chunks-at zero (first ∷ items) item at = ap (λ (i : Item). change i items) (same_Some first item at)
  chunks-at (suc n) (first ∷ items) item at = ap (λ l. kept_item first ∷ l) (chunks-at n items item at)

-- an entry's pieces stand after what is kept before it
pub pieces-entry_at : (change : Entry → List Chunk) (db : Reading) (n : ℕ) (e : Entry) (trail : Text) → slice_get db.items n ≡ Some (item_at (EntryTree e) trail) →
    pieces_of_chunks (Kept db.front ∷ chunks_from n (entry_as change) db.items) ≡ pieces_from (start_of db n) (change e)
pieces-entry_at change db n e trail at =
    ap (λ k. pieces_from k (chunks_from n (entry_as change) db.items)) (zero-add (length db.front))
    ∙ ap (pieces_from (length db.front)) (chunks-at (entry_as change) n db.items (item_at (EntryTree e) trail) at)
    ∙ pieces-after_items (length db.front) (take n db.items) (entry_as change (item_at (EntryTree e) trail) (drop (suc n) db.items))
    ∙ pieces-before_items (start_of db n) (change e) trail (drop (suc n) db.items)

removed_chunks-at : (n : ℕ) (items : List Item) (item : Item) → slice_get items n ≡ Some item →
    chunks_from n without_body items ≡ kept_items (take n items) ++ (Replaced (body_at items n) [] ∷ Kept (trail_at items n) ∷ kept_items (drop (suc n) items))
removed_chunks-at n [] item at = absurd (none-some item at)
removed_chunks-at zero (first ∷ items) item at = refl
removed_chunks-at (suc n) (first ∷ items) item at = ap (λ l. kept_item first ∷ l) (removed_chunks-at n items item at)

-- a removal is one piece
pub removal-pieces_at : (db : Reading) (n : ℕ) (item : Item) → slice_get db.items n ≡ Some item →
    pieces_of_chunks (Kept db.front ∷ chunks_from n without_body db.items) ≡ removal_of db n ∷ []
removal-pieces_at db n item at =
    let rest = Replaced (body_at db.items n) [] ∷ Kept (trail_at db.items n) ∷ kept_items (drop (suc n) db.items) in
    ap (λ l. pieces_from (0 + length db.front) l) (removed_chunks-at n db.items item at)
    ∙ ap (λ k. pieces_from k (kept_items (take n db.items) ++ rest)) (zero-add (length db.front))
    ∙ pieces-after_items (length db.front) (take n db.items) rest
    ∙ ap (λ l. removal_of db n ∷ l) (pieces-kept_items (start_of db n + length (body_at db.items n) + length (trail_at db.items n)) (drop (suc n) db.items))

-- ---- clean texts

abbrev AreClean : List Item → Type 0
AreClean items = All (λ item. IsCleanTrail (is_comment item.tree) item.trail) items

-- the front stands after a comment, or does not
abbrev after : Bool → List Item → ℕ → Bool
after c items zero = c
after c items (suc n) = is_after_comment items (suc n)

abbrev Joins : Bool → Text → List Item → ℕ → Type 0
Joins c front items n = IsCleanTrail (after c items n) (text_before front items n ++ trail_at items n)

abbrev CleanAfter : Bool → Reading → Type 0
CleanAfter c db = IsCleanTrail c db.front × AreClean db.items

later : (c : Bool) (front : Text) (item : Item) (items : List Item) (n : ℕ) → Joins c front (item ∷ items) (suc n) → Joins (is_comment item.tree) item.trail items n
later c front item items zero j = j
later c front item items (suc n) j = j

sooner : (c : Bool) (front : Text) (item : Item) (items : List Item) (n : ℕ) → Joins (is_comment item.tree) item.trail items n → Joins c front (item ∷ items) (suc n)
sooner c front item items zero j = j
sooner c front item items (suc n) j = j

joined : (c : Bool) (front : Text) (items : List Item) (n : ℕ) (it : Item) → slice_get items n ≡ Some it → IsCleanTrail c front → AreClean items → Joins c front items n → CleanAfter c (without_item n front items)
joined c front [] n it at front_clean are joins = absurd (none-some it at)
joined c front (item ∷ items) zero it at front_clean are joins = (joins, All-tail (λ item. IsCleanTrail (is_comment item.tree) item.trail) item items are)
joined c front (item ∷ items) (suc n) it at front_clean are joins =
    let its = All-head (λ item. IsCleanTrail (is_comment item.tree) item.trail) item items are in
    let rest = without_item n item.trail items in
    let kept : Item = record item { trail = rest.front } in
    let r = joined (is_comment item.tree) item.trail items n it at its (All-tail (λ item. IsCleanTrail (is_comment item.tree) item.trail) item items are) (later c front item items n joins) in
    (front_clean, All-cons (λ item. IsCleanTrail (is_comment item.tree) item.trail) kept rest.items r.0 r.1)

unjoined : (c : Bool) (front : Text) (items : List Item) (n : ℕ) (it : Item) → slice_get items n ≡ Some it → CleanAfter c (without_item n front items) → Joins c front items n
unjoined c front [] n it at clean = absurd (none-some it at)
unjoined c front (item ∷ items) zero it at clean = clean.0
unjoined c front (item ∷ items) (suc n) it at clean =
    let rest = without_item n item.trail items in
    let kept : Item = record item { trail = rest.front } in
    sooner c front item items n (unjoined (is_comment item.tree) item.trail items n it at
    (All-head (λ item. IsCleanTrail (is_comment item.tree) item.trail) kept rest.items clean.1, All-tail (λ item. IsCleanTrail (is_comment item.tree) item.trail) kept rest.items clean.1))

plain : (items : List Item) (n : ℕ) → after false items n ≡ is_after_comment items n
plain items zero = refl
plain items (suc n) = refl

module _ (db : Reading) (n : ℕ) (item : Item) (at : slice_get db.items n ≡ Some item) where
  -- where item n goes, all texts stay clean exactly where the joined one is
  pub joins-clean_at : (file : Text) → Reads file db → JoinsCleanly db n → HasCleanTexts (without_item n db.front db.items)
  joins-clean_at file reads joins =
      let r = joined false db.front db.items n item at (record { clean = reads.front; ends_name = λ e. absurd (false≢true e) }) (λ k d lt. (reads.items k d lt).trail)
      (subst (λ c. IsCleanTrail c (text_before db.front db.items n ++ trail_at db.items n)) (sym (plain db.items n)) joins) in
      record { front = r.0.clean; trails = r.1 }

  pub clean-joins_at : HasCleanTexts (without_item n db.front db.items) → JoinsCleanly db n
  clean-joins_at clean =
      subst (λ c. IsCleanTrail c (text_before db.front db.items n ++ trail_at db.items n)) (plain db.items n)
      (unjoined false db.front db.items n item at (record { clean = clean.front; ends_name = λ e. absurd (false≢true e) }, clean.trails))

-- ---- long texts

-- some raw text of the item is too long, where these macros stand before it
abbrev is_long_in : Macros → Tree → Bool
is_long_in m tree = list_any is_long (raw_texts_in m tree)

out_first : (m : Macros) (name : Text) (tree : Tree) (items : List Item) → is_entry name tree ≡ true → any_long (macros_after m tree) items ≡ false → any_long m items ≡ false
out_first m name (EntryTree e) items h short = short
out_first m name (CommentTree c) items h short = absurd (false≢true h)
out_first m name (DefinitionTree d) items h short = absurd (false≢true h)
out_first m name (PreambleTree p) items h short = absurd (false≢true h)

-- an entry goes
pub removed-short_at : (m : Macros) (name : Text) (n : ℕ) (front : Text) (items : List Item) (item : Item) → slice_get items n ≡ Some item → is_entry name item.tree ≡ true →
    any_long m items ≡ false → any_long m (without_item n front items).items ≡ false
removed-short_at m name n front [] item at named short = absurd (none-some item at)
removed-short_at m name zero front (first ∷ items) item at named short =
    out_first m name first.tree items (ap (λ (i : Item). is_entry name i.tree) (same_Some first item at) ∙ named) (or_parts (is_long_in m first.tree) (any_long (macros_after m first.tree) items) short).1
removed-short_at m name (suc n) front (first ∷ items) item at named short =
    let both = or_parts (is_long_in m first.tree) (any_long (macros_after m first.tree) items) short in
    or_from (is_long_in m first.tree) (any_long (macros_after m first.tree) (without_item n first.trail items).items) both.0
    (removed-short_at (macros_after m first.tree) name n first.trail items item at named both.1)

module _ (change : Entry → Entry) where
  -- an entry becomes another one
  pub changed-long_at : (m : Macros) (n : ℕ) (items : List Item) (e : Entry) (trail : Text) → slice_get items n ≡ Some (item_at (EntryTree e) trail) → any_long m items ≡ false →
      any_long m (with_tree_at n (of_entry change) items) ≡ is_long_in (macros_at m items n) (EntryTree (change e))
  changed-long_at m n [] e trail at short = absurd (none-some (item_at (EntryTree e) trail) at)
  changed-long_at m zero (first ∷ items) e trail at short =
      let it : first ≡ item_at (EntryTree e) trail = same_Some first (item_at (EntryTree e) trail) at in
      let both = or_parts (is_long_in m first.tree) (any_long (macros_after m first.tree) items) short in
      ap (λ (i : Item). is_long_in m (of_entry change i.tree) || any_long (macros_after m (of_entry change i.tree)) items) it
      ∙ ap (λ b. is_long_in m (EntryTree (change e)) || b) (sym (ap (λ (i : Item). any_long (macros_after m i.tree) items) it) ∙ both.1)
      ∙ or-false (is_long_in m (EntryTree (change e)))
  changed-long_at m (suc n) (first ∷ items) e trail at short =
      let both = or_parts (is_long_in m first.tree) (any_long (macros_after m first.tree) items) short in
      ap (λ b. b || any_long (macros_after m first.tree) (with_tree_at n (of_entry change) items)) both.0
      ∙ changed-long_at (macros_after m first.tree) n items e trail at both.1

  pub too_long-changed_at : (db : Reading) (n : ℕ) (e : Entry) (trail : Text) → slice_get db.items n ≡ Some (item_at (EntryTree e) trail) → too_long_at db ≡ None →
      is_some (too_long_at (with_entry_at n change db)) ≡ list_any is_long (raw_texts_in (macros_at months db.items n) (EntryTree (change e)))
  too_long-changed_at db n e trail at short = too_long-any (with_entry_at n change db) ∙ changed-long_at months n db.items e trail at (sym (too_long-any db) ∙ ap is_some short)
