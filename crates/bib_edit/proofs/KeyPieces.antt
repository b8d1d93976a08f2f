-- The pieces of entries that get new keys are those of the edit's chunks.
use Rattle.bib_edit.proofs.Words.{◌≡◌, ℕ, suc, ◌+◌, ◌≤◌, true, false, List, [], ◌∷◌, ◌++◌, Option, Some, None, length, find, option_and_then, scan, ⊎_elim, refl, sym, ◌∙◌, ap, ap₂, subst, arith, add-one, append_assoc, append-nil, length-append, flat_map, cases_Bool, cond-true, cond-false}
use Rattle.bib_edit.proofs.Words.{false≢true, file_limit, comma, Text, same, Value, Row, Entry, Tree, CommentTree, DefinitionTree, PreambleTree, EntryTree, value_bytes, row_bytes, opening_bytes, tree_bytes, entry_bytes, Item, item_bytes, row_start, EntryTexts, crossref, target, Piece, Chunk, Kept}
use Rattle.bib_edit.proofs.Words.{Replaced, old_of, pieces_from, end_of, in_braces, next_number, token, kept_rows, value_replaced, crossref_chunks, after_rows, entry_chunks, tree_key_chunks, item_key_chunks, read, old-read, last-read, entry-read, token_old, rows-kept, row-parts, Field, field_after}
use Rattle.bib_edit.proofs.Words.{fields_after, View, view_of, is_entry_tree, is_field, braced, key_piece, value_piece, crossref_piece, entry_item, IsEntrySeen, value-place}
use Rattle.bib_edit.proofs.PieceLists.{pieces-append, pieces-kept_rows}

-- ---- rows

braces-are : (key : Text) → value_bytes (in_braces key) ≡ braced key
braces-are key = append-nil (braced key)

module _ (start : ℕ) (key : Text) where
  abbrev pub first_field : List Field → Option Field
  first_field fields = find (is_field crossref) fields

  abbrev there : Row → List Row → List Chunk
  there row rows = Kept (row_start row) ∷ Replaced (value_bytes row.assignment.value) (value_bytes (in_braces key)) ∷ Kept row.assignment.space_after ∷ kept_rows rows

  abbrev further : Row → List Row → List Chunk
  further row rows = Kept (row_bytes row) ∷ value_replaced crossref (in_braces key) rows

  -- the rows stand after the text `before`
  pieces-valued : (before : Text) (rows : List Row) → pieces_from (start + length before) (value_replaced crossref (in_braces key) rows) ≡ value_piece start key (first_field (fields_after before rows))
  pieces-valued before [] = refl
  pieces-valued before (row ∷ rows) =
      let field : Field = field_after (length before) (before ++ comma ∷ row.space_before_name) row.assignment in
      let others : List Field = fields_after (before ++ row_bytes row) rows in
      let at : field.value_at ≡ length before + length (row_start row) = value-place before row in
      let place : start + length before + length (row_start row) ≡ start + field.value_at = omega (arith, at) in
      let long : length (before ++ row_bytes row) ≡ length before + length (row_bytes row) = length-append before (row_bytes row) in
      let next : start + length before + length (row_bytes row) ≡ start + length (before ++ row_bytes row) = omega (arith, long) in
      ⊎_elim
      (λ t. ap (pieces_from (start + length before)) (cond-true (same row.assignment.name crossref) (there row rows) (further row rows) t)
      ∙ ap₂ (λ (n : ℕ) (ps : List Piece). record { place = n; old = value_bytes row.assignment.value; new = value_bytes (in_braces key) } ∷ ps) place
      (pieces-kept_rows (start + length before + length (row_start row) + length (value_bytes row.assignment.value) + length row.assignment.space_after) rows)
      ∙ ap (λ (new : Text). let p : Piece = record { place = start + field.value_at; old = value_bytes row.assignment.value; new = new } in p ∷ []) (braces-are key)
      ∙ sym (ap (value_piece start key) (cond-true (same row.assignment.name crossref) (Some field) (first_field others) t)))
      (λ t. ap (pieces_from (start + length before)) (cond-false (same row.assignment.name crossref) (there row rows) (further row rows) t)
      ∙ ap (λ n. pieces_from n (value_replaced crossref (in_braces key) rows)) next
      ∙ pieces-valued (before ++ row_bytes row) rows
      ∙ sym (ap (value_piece start key) (cond-false (same row.assignment.name crossref) (Some field) (first_field others) t)))
      (cases_Bool (same row.assignment.name crossref))

-- ---- an entry

abbrev before_rows : Entry → Text
before_rows e = opening_bytes e.opening ++ e.key ++ e.space_after_key

pieces-crossref : (start : ℕ) (o : Option Text) (e : Entry) (trail : Text) →
    pieces_from (start + length (before_rows e)) (crossref_chunks o e.rows) ≡ crossref_piece start (view_of (entry_item e trail)) o
pieces-crossref start None e trail = pieces-kept_rows (start + length (before_rows e)) e.rows
pieces-crossref start (Some key) e trail = pieces-valued start key (before_rows e) e.rows

pieces-key : (start : ℕ) (o : Option Text) (e : Entry) (trail : Text) (rest : List Chunk) →
    pieces_from (start + length (opening_bytes e.opening)) (token e.key o ∷ rest) ≡ key_piece start (view_of (entry_item e trail)) o ++ pieces_from (start + length (opening_bytes e.opening) + length e.key) rest
pieces-key start None e trail rest = refl
pieces-key start (Some key) e trail rest = refl

pieces-then_kept : (at : ℕ) (chunks : List Chunk) (t : Text) → pieces_from at (chunks ++ Kept t ∷ []) ≡ pieces_from at chunks
pieces-then_kept at chunks t = pieces-append at chunks (Kept t ∷ []) ∙ append-nil (pieces_from at chunks)

module _ (start : ℕ) (key named : Option Text) (e : Entry) (trail : Text) where
  abbrev its_rows : List Chunk
  its_rows = Kept e.space_after_key ∷ crossref_chunks named e.rows

  abbrev pub its_chunks : List Chunk
  its_chunks = entry_chunks (token e.key key) its_rows e ++ Kept trail ∷ []

  pub pieces-entry : pieces_from start its_chunks ≡ key_piece start (view_of (entry_item e trail)) key ++ crossref_piece start (view_of (entry_item e trail)) named
  pieces-entry =
      let inside : ℕ = start + length (opening_bytes e.opening) + length e.key in
      let long : length (before_rows e) ≡ length (opening_bytes e.opening ++ e.key) + length e.space_after_key = length-append (opening_bytes e.opening ++ e.key) e.space_after_key in
      let short : length (opening_bytes e.opening ++ e.key) ≡ length (opening_bytes e.opening) + length e.key = length-append (opening_bytes e.opening) e.key in
      let place : inside + length e.space_after_key ≡ start + length (before_rows e) = omega (arith, long, short) in
      pieces-then_kept start (entry_chunks (token e.key key) its_rows e) trail
      ∙ pieces-key start key e trail (its_rows ++ Kept (after_rows e) ∷ [])
      ∙ ap (λ ps. key_piece start (view_of (entry_item e trail)) key ++ ps)
      (pieces-then_kept inside its_rows (after_rows e)
      ∙ ap (λ n. pieces_from n (crossref_chunks named e.rows)) place
      ∙ pieces-crossref start named e trail)

-- ---- what an entry's pieces replace lies in it

-- each piece lies within this many bytes after the place
abbrev EndWithin : ℕ → List Piece → Type 0
EndWithin end [] = Unit {0}
EndWithin end (p ∷ ps) = (end_of p ≤ end) × EndWithin end ps

pieces-within : (at : ℕ) (chunks : List Chunk) (end : ℕ) → at + length (old_of chunks) ≤ end → EndWithin end (pieces_from at chunks)
pieces-within at [] end le = tt
pieces-within at (Kept t ∷ chunks) end le = let long = length-append t (old_of chunks) in pieces-within (at + length t) chunks end (omega (arith, le, long))
pieces-within at (Replaced old new ∷ chunks) end le =
    let long = length-append old (old_of chunks) in
    (omega (arith, le, long), pieces-within (at + length old) chunks end (omega (arith, le, long)))

regroup : (x y z : Text) → x ++ (y ++ z) ≡ (x ++ y) ++ z
regroup x y z = simp append_assoc

replaced-old : (name : Text) (value : Value) (rows : List Row) → read false (value_replaced name value rows) ≡ flat_map row_bytes rows
replaced-old name value [] = refl
replaced-old name value (row ∷ rows) = ⊎_elim
    (λ t. ap (read false) (cond-true (same row.assignment.name name)
    (Kept (row_start row) ∷ Replaced (value_bytes row.assignment.value) (value_bytes value) ∷ Kept row.assignment.space_after ∷ kept_rows rows) (Kept (row_bytes row) ∷ value_replaced name value rows) t)
    ∙ ap (λ r. row_start row ++ (value_bytes row.assignment.value ++ (row.assignment.space_after ++ r))) (rows-kept false rows)
    ∙ ap (λ r. row_start row ++ r) (regroup (value_bytes row.assignment.value) row.assignment.space_after (flat_map row_bytes rows))
    ∙ regroup (row_start row) (value_bytes row.assignment.value ++ row.assignment.space_after) (flat_map row_bytes rows)
    ∙ ap (λ r. r ++ flat_map row_bytes rows) (sym (row-parts row)))
    (λ t. ap (read false) (cond-false (same row.assignment.name name)
    (Kept (row_start row) ∷ Replaced (value_bytes row.assignment.value) (value_bytes value) ∷ Kept row.assignment.space_after ∷ kept_rows rows) (Kept (row_bytes row) ∷ value_replaced name value rows) t)
    ∙ ap (λ r. row_bytes row ++ r) (replaced-old name value rows))
    (cases_Bool (same row.assignment.name name))

crossref-old : (o : Option Text) (rows : List Row) → read false (crossref_chunks o rows) ≡ flat_map row_bytes rows
crossref-old None rows = rows-kept false rows
crossref-old (Some key) rows = replaced-old crossref (in_braces key) rows

entry-old : (key named : Option Text) (e : Entry) (trail : Text) → old_of (entry_chunks (token e.key key) (Kept e.space_after_key ∷ crossref_chunks named e.rows) e ++ Kept trail ∷ []) ≡ item_bytes (entry_item e trail)
entry-old key named e trail =
    let chunks : List Chunk = entry_chunks (token e.key key) (Kept e.space_after_key ∷ crossref_chunks named e.rows) e in
    old-read (chunks ++ Kept trail ∷ [])
    ∙ last-read false chunks trail (entry_bytes e)
    (entry-read false (token e.key key) (Kept e.space_after_key ∷ crossref_chunks named e.rows) e e.key e.space_after_key e.rows (token_old e.key key)
    (ap (λ t. e.space_after_key ++ t) (crossref-old named e.rows)))

module _ (start : ℕ) (view : View) (seen : IsEntrySeen start view) where
  within-entry : (key named : Option Text) → EndWithin file_limit (key_piece start view key ++ crossref_piece start view named)
  within-entry key named =
      let e : Entry = seen.entry in
      let old = ap length (entry-old key named e seen.trail) in
      let within = seen.within in
      subst (λ (v : View). EndWithin file_limit (key_piece start v key ++ crossref_piece start v named)) (sym seen.is)
      (subst (EndWithin file_limit) (pieces-entry start key named e seen.trail)
      (pieces-within start (its_chunks start key named e seen.trail) file_limit (omega (arith, old, within))))

  pub value-within : (field : Field) → Some field ≡ find (is_field crossref) view.fields → start + field.value_at ≤ file_limit
  value-within field found =
      let w = (subst (λ (o : Option Field). EndWithin file_limit (value_piece start [] o)) (sym found) (within-entry None (Some []))).0 in omega (arith, w)

-- ---- all items

module _ (new : ℕ → Option Text) (entries : List EntryTexts) where
  -- the chunks of items, where the first entry among them has the number n
  abbrev pub keyed_chunks : ℕ → List Item → List Chunk
  keyed_chunks n items = flat_map (λ chunks. chunks) (scan (λ n item. next_number n item.tree) (item_key_chunks new entries) n items)

  other-chunks : (n : ℕ) (item : Item) → is_entry_tree item.tree ≡ false → item_key_chunks new entries n item ≡ Kept (tree_bytes item.tree) ∷ Kept item.trail ∷ []
  other-chunks n item = of item.tree item.trail
    where
      of : (tree : Tree) (trail : Text) → is_entry_tree tree ≡ false → tree_key_chunks new entries n tree ++ Kept trail ∷ [] ≡ Kept (tree_bytes tree) ∷ Kept trail ∷ []
      of (CommentTree h) trail e = refl
      of (DefinitionTree d) trail e = refl
      of (PreambleTree p) trail e = refl
      of (EntryTree x) trail e = absurd (false≢true (sym e))

  other-number : (n : ℕ) (tree : Tree) → is_entry_tree tree ≡ false → next_number n tree ≡ n
  other-number n (CommentTree h) e = refl
  other-number n (DefinitionTree d) e = refl
  other-number n (PreambleTree p) e = refl
  other-number n (EntryTree x) e = absurd (false≢true (sym e))

  -- an item that is no entry has no piece
  pub pieces-other : (start n : ℕ) (item : Item) (items : List Item) → is_entry_tree item.tree ≡ false →
      pieces_from start (keyed_chunks n (item ∷ items)) ≡ pieces_from (start + (length (tree_bytes item.tree) + length item.trail)) (keyed_chunks n items)
  pieces-other start n item items e =
      let place : start + length (tree_bytes item.tree) + length item.trail ≡ start + (length (tree_bytes item.tree) + length item.trail) = omega arith in
      ap₂ (λ (chunks : List Chunk) (m : ℕ). pieces_from start (chunks ++ keyed_chunks m items)) (other-chunks n item e) (other-number n item.tree e)
      ∙ ap (λ at. pieces_from at (keyed_chunks n items)) place

  pub pieces-more : (start n : ℕ) (e : Entry) (trail : Text) (items : List Item) →
      pieces_from start (keyed_chunks n (entry_item e trail ∷ items)) ≡
      (key_piece start (view_of (entry_item e trail)) (new n) ++ crossref_piece start (view_of (entry_item e trail)) (option_and_then new (target entries n)))
      ++ pieces_from (start + (length (tree_bytes (EntryTree e)) + length trail)) (keyed_chunks (n + 1) items)
  pieces-more start n e trail items =
      let named : Option Text = option_and_then new (target entries n) in
      let old = ap length (entry-old (new n) named e trail) in
      let long = length-append (entry_bytes e) trail in
      let place : start + length (old_of (its_chunks start (new n) named e trail)) ≡ start + (length (tree_bytes (EntryTree e)) + length trail) = omega (arith, old, long) in
      pieces-append start (its_chunks start (new n) named e trail) (keyed_chunks (suc n) items)
      ∙ ap₂ ◌++◌ (pieces-entry start (new n) named e trail)
      (ap₂ (λ (at m : ℕ). pieces_from at (keyed_chunks m items)) place (sym (add-one n)))

-- ---- an item that is an entry

pub entry-is : (item : Item) → is_entry_tree item.tree ≡ true → (e : Entry) × (item ≡ entry_item e item.trail)
entry-is item = of item.tree item.trail
  where
    of : (tree : Tree) (trail : Text) → is_entry_tree tree ≡ true → (e : Entry) × ((let it : Item = record { tree = tree; trail = trail } in it) ≡ entry_item e trail)
    of (CommentTree h) trail e = absurd (false≢true e)
    of (DefinitionTree d) trail e = absurd (false≢true e)
    of (PreambleTree p) trail e = absurd (false≢true e)
    of (EntryTree x) trail e = (x, refl)
