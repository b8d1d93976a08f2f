-- Rows after the first of a name: the piece that sets one field of several with the same name, and the long texts that a change of
-- one of them makes.
use Rattle.bib_edit.proofs.Words.{◌≡◌, ℕ, zero, suc, ◌+◌, ◌++◌, ◌||◌, false, List, [], ◌∷◌, Option, Some, None, length, slice_get, list_any, refl, sym, ◌∙◌, ap, arith, length-append, or_parts, none-some, if◌then◌else◌, Text, same, Value, Row, EntryTree, Entry, value_bytes, row_bytes, opening_bytes, Reading, Record, Macros, raw_text, raw_texts_in}
use Rattle.bib_edit.proofs.Words.{row_start, Piece, Chunk, Kept, pieces_from, pieces_of_chunks, kept_items, field_set, pieces_of, with_field, without_field, Field, fields_after, view_of, start_of, set_at, rows_end, fields_end}
use Rattle.std.specs.Option.{option_map_or}
use Rattle.edit_spec.specs.Edits.{Which, SetsField, ChangeEntry, number_of, item_meant, with_later_rows, entry_with_one_field, entry_without_one_field}
use Rattle.edit_spec.specs.EditChunks.{later_rows_chunked, one_field_set, entry_chunked}
use Rattle.bib_edit.specs.MeantFields.{nth_field, field_meant, is_lacking}
use Rattle.bib_edit.proofs.LongTexts.{is_long, rows_long, set_long, dropped_long}
use Rattle.bib_edit.proofs.MeantFields.{nth-first, new-first}
use Rattle.bib_edit.proofs.MeantItems.{item_at, pieces-entry_at}
use Rattle.bib_edit.proofs.PieceLists.{pieces-entry}
use Rattle.bib_edit.proofs.SettingPieces.{before-next, length-to_value, pieces-set, end-rows}

-- ---- the piece that sets a field

module _ (name : Text) (value : Value) (start : ℕ) where
  -- the rows stand after the text `pre`, and white space before them; the field is there
  pieces-set_later : (k : ℕ) (pre before : Text) (rows : List Row) (field : Field) → nth_field name k (fields_after (pre ++ before) rows) ≡ Some field → (end : ℕ) →
      pieces_from (start + length pre) (later_rows_chunked name k (field_set name value) before rows) ≡ set_at start name (value_bytes value) end (Some field) ∷ []
  pieces-set_later zero pre before rows field found end =
      pieces-set name value start pre before rows
      ∙ ap (λ o. set_at start name (value_bytes value) (fields_end (length pre) (fields_after (pre ++ before) rows)) o ∷ []) (sym (nth-first name (fields_after (pre ++ before) rows)) ∙ found)
  pieces-set_later (suc k) pre before [] field found end = absurd (none-some field found)
  pieces-set_later (suc k) pre before (row ∷ rows) field found end =
      let text : Text = pre ++ before in
      let next : Text = (text ++ row_start row) ++ value_bytes row.assignment.value in
      let later : ℕ = if same row.assignment.name name then k else suc k in
      let long : length text ≡ length pre + length before = length-append pre before in
      let to_value : length next ≡ length text + length (row_start row) + length (value_bytes row.assignment.value) = length-to_value text row in
      let further : start + length pre + length before + length (row_start row) + length (value_bytes row.assignment.value) ≡ start + length next = omega (arith, to_value, long) in
      ap (λ n. pieces_from n (later_rows_chunked name later (field_set name value) row.assignment.space_after rows)) further
      ∙ pieces-set_later later next row.assignment.space_after rows field (ap (λ u. nth_field name later (fields_after u rows)) (before-next text row) ∙ found) end

module _ (base : Record → Text) (key field : Which) (value : Value) (db : Reading) (n : ℕ) (e : Entry) (trail : Text)
    (found : item_meant key db.items ≡ Some n) (at : slice_get db.items n ≡ Some (item_at (EntryTree e) trail))
  where
    abbrev key_text : Text
    key_text = opening_bytes e.opening ++ e.key

    abbrev fields : List Field
    fields = fields_after (key_text ++ e.space_after_key) e.rows

    abbrev rows_set : ℕ → List Chunk
    rows_set k = later_rows_chunked field.name k (field_set field.name value) e.space_after_key e.rows

    abbrev setting : Option Field → List Piece
    setting o = set_at (start_of db n) field.name (value_bytes value) (rows_end (view_of (item_at (EntryTree e) trail))) o ∷ []

    entry-set : pieces_of base db (ChangeEntry key (SetsField field value)) ≡ pieces_from (start_of db n + length key_text) (rows_set (number_of field))
    entry-set =
        let long : length key_text ≡ length (opening_bytes e.opening) + length e.key = length-append (opening_bytes e.opening) e.key in
        ap (λ o. pieces_of_chunks (Kept db.front ∷ option_map_or (entry_chunked key (SetsField field value) db) o (kept_items db.items))) found
        ∙ pieces-entry_at (one_field_set field value) db n e trail at
        ∙ pieces-entry (start_of db n) (rows_set (number_of field)) e
        ∙ ap (λ k. pieces_from k (rows_set (number_of field))) (omega (arith, long))

    rows-set : (o : Option Field) → field_meant field fields ≡ o → is_lacking field o ≡ false → pieces_from (start_of db n + length key_text) (rows_set (number_of field)) ≡ setting o
    rows-set (Some it) is there = pieces-set_later field.name value (start_of db n) (number_of field) key_text e.space_after_key e.rows it is (rows_end (view_of (item_at (EntryTree e) trail)))
    rows-set None is there =
        let first = new-first field there in
        let long : length key_text ≡ length (opening_bytes e.opening) + length e.key = length-append (opening_bytes e.opening) e.key in
        ap (λ k. pieces_from (start_of db n + length key_text) (rows_set k)) first
        ∙ pieces-set field.name value (start_of db n) key_text e.space_after_key e.rows
        ∙ ap (λ o. set_at (start_of db n) field.name (value_bytes value) (fields_end (length key_text) fields) o ∷ []) (sym (nth-first field.name fields) ∙ ap (λ k. nth_field field.name k fields) (sym first) ∙ is)
        ∙ ap (λ k. set_at (start_of db n) field.name (value_bytes value) k None ∷ []) (ap (λ k. fields_end k fields) long ∙ end-rows (length (opening_bytes e.opening) + length e.key) fields)

    -- setting a field is one piece
    pub set-one_field : is_lacking field (field_meant field fields) ≡ false → pieces_of base db (ChangeEntry key (SetsField field value)) ≡ setting (field_meant field fields)
    set-one_field there = entry-set ∙ rows-set (field_meant field fields) refl there

-- ---- long texts

module _ (m : Macros) where
  module _ (name : Text) (value : Value) where
    set_later_long : (k : ℕ) (text before : Text) (rows : List Row) (field : Field) → nth_field name k (fields_after text rows) ≡ Some field → rows_long m rows ≡ false →
        rows_long m (with_later_rows name k (with_field name value) before rows).1 ≡ is_long (raw_text m value)
    set_later_long zero text before rows field found short = set_long m name value before rows short
    set_later_long (suc k) text before [] field found short = absurd (none-some field found)
    set_later_long (suc k) text before (row ∷ rows) field found short =
        let later : ℕ = if same row.assignment.name name then k else suc k in
        let rest = with_later_rows name later (with_field name value) row.assignment.space_after rows in
        let both = or_parts (is_long (raw_text m row.assignment.value)) (rows_long m rows) short in
        ap (λ b. b || rows_long m rest.1) both.0 ∙ set_later_long later (text ++ row_bytes row) row.assignment.space_after rows field found both.1

  dropped_later_long : (name : Text) (k : ℕ) (before : Text) (rows : List Row) → rows_long m rows ≡ false → rows_long m (with_later_rows name k (without_field name) before rows).1 ≡ false
  dropped_later_long name zero before rows short = dropped_long m name before rows short
  dropped_later_long name (suc k) before [] short = refl
  dropped_later_long name (suc k) before (row ∷ rows) short =
      let later : ℕ = if same row.assignment.name name then k else suc k in
      let rest = with_later_rows name later (without_field name) row.assignment.space_after rows in
      let both = or_parts (is_long (raw_text m row.assignment.value)) (rows_long m rows) short in
      ap (λ b. b || rows_long m rest.1) both.0 ∙ dropped_later_long name later row.assignment.space_after rows both.1

  -- where one of several fields is set, its value's text alone may be too long
  pub long-one_set : (field : Which) (value : Value) (e : Entry) (o : Option Field) → field_meant field (fields_after (opening_bytes e.opening ++ e.key ++ e.space_after_key) e.rows) ≡ o → is_lacking field o ≡ false →
      list_any is_long (raw_texts_in m (EntryTree e)) ≡ false → list_any is_long (raw_texts_in m (EntryTree (entry_with_one_field field value e))) ≡ is_long (raw_text m value)
  long-one_set field value e (Some it) is there short = set_later_long field.name value (number_of field) (opening_bytes e.opening ++ e.key ++ e.space_after_key) e.space_after_key e.rows it is short
  long-one_set field value e None is there short =
      ap (λ k. rows_long m (with_later_rows field.name k (with_field field.name value) e.space_after_key e.rows).1) (new-first field there)
      ∙ set_long m field.name value e.space_after_key e.rows short

  -- where it is dropped, none is
  pub short-one_dropped : (field : Which) (e : Entry) → list_any is_long (raw_texts_in m (EntryTree e)) ≡ false → list_any is_long (raw_texts_in m (EntryTree (entry_without_one_field field e))) ≡ false
  short-one_dropped field e short = dropped_later_long field.name (number_of field) e.space_after_key e.rows short
