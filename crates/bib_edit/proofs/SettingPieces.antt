-- The piece that sets a field is the one piece of the edit's chunks.
use Rattle.bib_edit.proofs.Words.{◌≡◌, ℕ, ◌+◌, ◌≤◌, ◌<◌, List, [], ◌∷◌, ◌++◌, Option, Some, None, length, codes, find, map, count_by, slice_get, ⊎_elim, refl, sym, ◌∙◌, ap, ap₂, subst, arith, append_assoc, append-nil, length-append, last_or, option_map_or, cases_Bool, cond-true, cond-false}
use Rattle.bib_edit.proofs.Words.{same_Some, slice_get_within, comma, equals_sign, file_limit, Text, same, Value, Row, Entry, Tree, EntryTree, value_bytes, row_bytes, opening_bytes, Item, Reading, bytes_of, Reads, Opens, IsOpenable, Digits, Macros, row_start, Record, field_of, has_name, Piece}
use Rattle.bib_edit.proofs.Words.{Chunk, Kept, Replaced, pieces_from, pieces_of_chunks, end_of, is_entry, fields_named, kept_rows, entry_chunks, entry_as, chunks_from_first, field_set, pieces_of, row-parts, count-yes, count-no, Field, field_after, fields_after, View, view_of, start_of, field_end}
use Rattle.bib_edit.proofs.Words.{value-place, is_field, fields_end, item_named, row_text, rows_end, set_at, set_piece, IsNamedItem, OfItem}
use Rattle.edit_spec.specs.Edits.{SetField}
use Rattle.bib_edit.proofs.NamedEntries.{named-entry}
use Rattle.bib_edit.proofs.FirstItems.{IsFirstItem, found_first, chunks-first, item-first, start-first}
use Rattle.bib_edit.proofs.PieceLists.{pieces-after_items, pieces-before_items, pieces-entry, pieces-kept_rows, within-one_piece}

pub row_regroup : (b s v e : Text) → ((b ++ s) ++ v) ++ e ≡ b ++ (s ++ (v ++ e))
row_regroup b s v e = simp append_assoc

-- the text before the next row, where the white space after a value is told apart
pub before-next : (before : Text) (row : Row) → ((before ++ row_start row) ++ value_bytes row.assignment.value) ++ row.assignment.space_after ≡ before ++ row_bytes row
before-next before row =
    row_regroup before (row_start row) (value_bytes row.assignment.value) row.assignment.space_after ∙ ap (λ t. before ++ t) (sym (row-parts row))

pub length-to_value : (before : Text) (row : Row) → length ((before ++ row_start row) ++ value_bytes row.assignment.value) ≡ length before + length (row_start row) + length (value_bytes row.assignment.value)
length-to_value before row =
    length-append (before ++ row_start row) (value_bytes row.assignment.value) ∙ ap (λ n. n + length (value_bytes row.assignment.value)) (length-append before (row_start row))

new_start : (name value : Text) → (comma ∷ codes "\n  " ++ (name ++ (codes " " ++ equals_sign ∷ codes " "))) ++ value ≡ row_text name value
new_start name value = simp append_assoc

module _ (name : Text) (value : Value) (start : ℕ) where
  abbrev first_of : List Field → Option Field
  first_of fields = find (is_field name) fields

  abbrev setting : ℕ → List Field → Piece
  setting end fields = set_at start name (value_bytes value) (fields_end end fields) (first_of fields)

  abbrev replaced : Text → Row → List Row → List Chunk
  replaced before row rows = Kept before ∷ Kept (row_start row) ∷ Replaced (value_bytes row.assignment.value) (value_bytes value) ∷ Kept row.assignment.space_after ∷ kept_rows rows

  abbrev passed : Text → Row → List Row → List Chunk
  passed before row rows = Kept before ∷ Kept (row_start row) ∷ Kept (value_bytes row.assignment.value) ∷ field_set name value row.assignment.space_after rows

  -- the rows stand after the text `pre`, and white space before them
  pub pieces-set : (pre before : Text) (rows : List Row) → pieces_from (start + length pre) (field_set name value before rows) ≡ setting (length pre) (fields_after (pre ++ before) rows) ∷ []
  pieces-set pre before [] = ap (λ t. record { place = start + length pre; old = []; new = t } ∷ []) (new_start name (value_bytes value))
  pieces-set pre before (row ∷ rows) =
      let text : Text = pre ++ before in
      let field : Field = field_after (length text) (text ++ comma ∷ row.space_before_name) row.assignment in
      let others : List Field = fields_after (text ++ row_bytes row) rows in
      let next : Text = (text ++ row_start row) ++ value_bytes row.assignment.value in
      let at : field.value_at ≡ length text + length (row_start row) = value-place text row in
      let long : length text ≡ length pre + length before = length-append pre before in
      let to_value : length next ≡ length text + length (row_start row) + length (value_bytes row.assignment.value) = length-to_value text row in
      let there : start + length pre + length before + length (row_start row) ≡ start + field.value_at = omega (arith, at, long) in
      let further : start + length pre + length before + length (row_start row) + length (value_bytes row.assignment.value) ≡ start + length next = omega (arith, to_value, long) in
      let end : length next ≡ field_end field = omega (arith, to_value, at) in
      ⊎_elim
      (λ t. ap (pieces_from (start + length pre)) (cond-true (same row.assignment.name name) (replaced before row rows) (passed before row rows) t)
      ∙ ap₂ (λ (n : ℕ) (ps : List Piece). record { place = n; old = value_bytes row.assignment.value; new = value_bytes value } ∷ ps) there
      (pieces-kept_rows (start + length pre + length before + length (row_start row) + length (value_bytes row.assignment.value) + length row.assignment.space_after) rows)
      ∙ sym (ap (λ o. set_at start name (value_bytes value) (fields_end (field_end field) others) o ∷ []) (cond-true (same row.assignment.name name) (Some field) (first_of others) t)))
      (λ t. ap (pieces_from (start + length pre)) (cond-false (same row.assignment.name name) (replaced before row rows) (passed before row rows) t)
      ∙ ap (λ n. pieces_from n (field_set name value row.assignment.space_after rows)) further
      ∙ pieces-set next row.assignment.space_after rows
      ∙ ap₂ (λ (n : ℕ) (fields : List Field). setting n fields ∷ []) end (ap (λ u. fields_after u rows) (before-next text row))
      ∙ sym (ap (λ o. set_at start name (value_bytes value) (fields_end (field_end field) others) o ∷ []) (cond-false (same row.assignment.name name) (Some field) (first_of others) t)))
      (cases_Bool (same row.assignment.name name))

-- ---- the end of the rows

last_end : (end : ℕ) (o : Option Field) (fields : List Field) → fields_end (option_map_or field_end o end) fields ≡ option_map_or field_end (last_or o fields) end
last_end end o [] = refl
last_end end o (field ∷ fields) = last_end end (Some field) fields

pub end-rows : (end : ℕ) (fields : List Field) → fields_end end fields ≡ option_map_or field_end (last_or None fields) end
end-rows end fields = last_end end None fields

-- ---- how many fields have the name

pub count-fields : (name : Text) (m : Macros) (before : Text) (rows : List Row) → count_by (is_field name) (fields_after before rows) ≡ count_by (has_name name) (map (field_of m) rows)
count-fields name m before [] = refl
count-fields name m before (row ∷ rows) =
    let field : Field = field_after (length before) (before ++ comma ∷ row.space_before_name) row.assignment in
    let rest : List Field = fields_after (before ++ row_bytes row) rows in
    ⊎_elim
    (λ t. count-yes (is_field name) field rest t ∙ ap (λ n. 1 + n) (count-fields name m (before ++ row_bytes row) rows) ∙ sym (count-yes (has_name name) (field_of m row) (map (field_of m) rows) t))
    (λ t. count-no (is_field name) field rest t ∙ count-fields name m (before ++ row_bytes row) rows ∙ sym (count-no (has_name name) (field_of m row) (map (field_of m) rows) t))
    (cases_Bool (same row.assignment.name name))

-- ---- the edit

abbrev pub item_at : Tree → Text → Item
item_at tree trail = record { tree = tree; trail = trail }

-- an entry's pieces stand after what is kept before it
pub pieces-entry_as : (change : Entry → List Chunk) (db : Reading) (key : Text) (n : ℕ) (e : Entry) (trail : Text) → item_named key db ≡ Some n → slice_get db.items n ≡ Some (item_at (EntryTree e) trail) →
    pieces_of_chunks (Kept db.front ∷ chunks_from_first (is_entry key) (entry_as change) db.items) ≡ pieces_from (start_of db n) (change e)
pieces-entry_as change db key n e trail named at =
    let first : IsFirstItem (is_entry key) db.items n = found_first (is_entry key) db.items n named in
    let it : item_at (EntryTree e) trail ≡ first.item = same_Some (item_at (EntryTree e) trail) first.item (sym at ∙ item-first (is_entry key) db.items n first) in
    let zero_add : 0 + length db.front ≡ length db.front = omega arith in
    ap (λ k. pieces_from k (chunks_from_first (is_entry key) (entry_as change) db.items)) zero_add
    ∙ ap (pieces_from (length db.front)) (chunks-first (is_entry key) (entry_as change) db.items n first)
    ∙ pieces-after_items (length db.front) first.before (entry_as change first.item first.after)
    ∙ ap (λ k. pieces_from k (entry_as change first.item first.after)) (sym (start-first (is_entry key) db n first))
    ∙ sym (ap (λ i. pieces_from (start_of db n) (entry_as change i first.after)) it)
    ∙ pieces-before_items (start_of db n) (change e) trail first.after

-- setting a field is one piece
pub set-one_piece : (base : Record → Text) (db : Reading) (key name : Text) (value : Value) (n : ℕ) (e : Entry) (trail : Text) → item_named key db ≡ Some n → slice_get db.items n ≡ Some (item_at (EntryTree e) trail) →
    pieces_of base db (SetField key name value) ≡ set_piece (start_of db n) (view_of (item_at (EntryTree e) trail)) name (value_bytes value) ∷ []
set-one_piece base db key name value n e trail named at =
    let start : ℕ = start_of db n in
    let pre : Text = opening_bytes e.opening ++ e.key in
    let fields : List Field = fields_after (pre ++ e.space_after_key) e.rows in
    let long : length pre ≡ length (opening_bytes e.opening) + length e.key = length-append (opening_bytes e.opening) e.key in
    pieces-entry_as (λ e. entry_chunks (Kept e.key) (field_set name value e.space_after_key e.rows) e) db key n e trail named at
    ∙ pieces-entry start (field_set name value e.space_after_key e.rows) e
    ∙ ap (λ k. pieces_from k (field_set name value e.space_after_key e.rows)) (omega (arith, long))
    ∙ pieces-set name value start pre e.space_after_key e.rows
    ∙ ap (λ k. set_at start name (value_bytes value) k (find (is_field name) fields) ∷ []) (ap (λ k. fields_end k fields) long ∙ end-rows (length (opening_bytes e.opening) + length e.key) fields)

-- ---- what is seen of the item

-- any bytes are those of some value
abbrev digits : Text → Value
digits t = record { first = Digits t; links = [] }

abbrev no_base : Record → Text
no_base r = []

-- what is seen of an item, and where it begins
abbrev pub IsSeen : Text → ℕ → ℕ → View → Type 0
IsSeen file n start view = OfItem file n (λ s v. (start ≡ s) × (view ≡ v))

module _ (file : Text) (n : ℕ) (name value : Text) (start : ℕ) (view : View) (seen : IsSeen file n start view) where
  -- the piece lies in the file
  pub set-within : IsOpenable file → IsNamedItem file n → end_of (set_piece start view name value) ≤ file_limit
  set-within is named =
      let db : Reading = is.0 in
      let opens : Opens file db = is.1 in
      let reads : Reads file db = opens.reads in
      let key : Text = named.0 in
      let entry = named-entry key db n (named.1 db reads) in
      let item : Item = item_at (EntryTree entry.entry) entry.trail in
      let same_item = seen db reads item entry.at in
      let bytes : value_bytes (digits value) ≡ value = append-nil value in
      let one : pieces_of no_base db (SetField key name (digits value)) ≡ set_piece start view name value ∷ [] =
      set-one_piece no_base db key name (digits value) n entry.entry entry.trail (named.1 db reads) entry.at
      ∙ ap (λ t. set_piece (start_of db n) (view_of item) name t ∷ []) bytes
      ∙ ap₂ (λ (s : ℕ) (v : View). set_piece s v name value ∷ []) (sym same_item.0) (sym same_item.1) in
      let inside = within-one_piece no_base db (SetField key name (digits value)) (set_piece start view name value) one in
      let long : length (bytes_of db) ≡ length file = ap length reads.bytes in
      let short = opens.short in
      omega (arith, inside, long, short)

  module _ (field : Field) (found : Some field ≡ find (is_field name) view.fields) where
    replacing : Piece
    replacing = record { place = start + field.value_at; old = field.value; new = value }

    replacing-is : replacing ≡ set_piece start view name value
    unfolding replacing
    replacing-is = ap (set_at start name value (rows_end view)) found

    pub replacing-within : IsOpenable file → IsNamedItem file n → start + field.value_at ≤ file_limit
    unfolding replacing
    replacing-within is named =
        let inside : end_of replacing ≤ file_limit = subst (λ (p : Piece). end_of p ≤ file_limit) (sym replacing-is) (set-within is named) in
        omega (arith, inside)

    pub replacing-set : (old new : Text) → old ≡ field.value → new ≡ value → OfItem file n (λ s v. (let p : Piece = record { place = start + field.value_at; old = old; new = new } in p) ≡ set_piece s v name value)
    unfolding replacing
    replacing-set old new o v db reads item at =
        let same_item = seen db reads item at in
        ap₂ (λ (x y : Text). let p : Piece = record { place = start + field.value_at; old = x; new = y } in p) o v
        ∙ replacing-is ∙ ap₂ (λ (s : ℕ) (w : View). set_piece s w name value) same_item.0 same_item.1

  module _ (missing : None ≡ find (is_field name) view.fields) where
    putting-is : (let p : Piece = record { place = start + rows_end view; old = []; new = row_text name value } in p) ≡ set_piece start view name value
    putting-is = ap (set_at start name value (rows_end view)) missing

    pub putting-within : IsOpenable file → IsNamedItem file n → start + rows_end view ≤ file_limit
    putting-within is named =
        let inside = subst (λ (p : Piece). end_of p ≤ file_limit) (sym putting-is) (set-within is named) in
        omega (arith, inside)

    pub putting-set : (end : ℕ) (old new : Text) → end ≡ rows_end view → old ≡ [] → new ≡ row_text name value → OfItem file n (λ s v. (let p : Piece = record { place = start + end; old = old; new = new } in p) ≡ set_piece s v name value)
    putting-set end old new e o t db reads item at =
        let same_item = seen db reads item at in
        ap₂ (λ (x y : Text). let p : Piece = record { place = start + end; old = x; new = y } in p) o t
        ∙ ap (λ k. let p : Piece = record { place = start + k; old = []; new = row_text name value } in p) e
        ∙ putting-is ∙ ap₂ (λ (s : ℕ) (w : View). set_piece s w name value) same_item.0 same_item.1

-- the item that a key names is there
pub item-within : (file : Text) (n : ℕ) → IsNamedItem file n → (db : Reading) → Reads file db → n < length db.items
item-within file n named db reads = slice_get_within db.items n _ (named-entry named.0 db n (named.1 db reads)).at

pub fields-seen : (db : Reading) (key name : Text) (n : ℕ) (item : Item) → item_named key db ≡ Some n → slice_get db.items n ≡ Some item → fields_named key name db ≡ count_by (is_field name) (view_of item).fields
fields-seen db key name n item named at =
    let entry = named-entry key db n named in
    let it : item ≡ item_at (EntryTree entry.entry) entry.trail = same_Some item (item_at (EntryTree entry.entry) entry.trail) (sym at ∙ entry.at) in
    ap (λ o. option_map_or (λ entry. count_by (has_name name) entry.fields) o 0) entry.texts
    ∙ sym (count-fields name entry.macros (opening_bytes entry.entry.opening ++ entry.entry.key ++ entry.entry.space_after_key) entry.entry.rows)
    ∙ sym (ap (λ i. count_by (is_field name) (view_of i).fields) it)
