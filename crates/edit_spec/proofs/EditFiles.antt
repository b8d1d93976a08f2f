-- The chunks of an edit have the file as their old text, and the file of the new database as their new text.
use Rattle.edit_spec.proofs.Words.{◌≡◌, ℕ, zero, suc, Bool, true, false, List, ◌∷◌, ◌++◌, Option, Some, None, option_and_then, unwrap_or, refl, sym, ◌∙◌, ap, ap₂, subst, append_assoc, append-nil, take, drop, insert, map, find, slice_get, ⊎_elim, option_map_or, flat_map, cases_Bool, cond-true}
use Rattle.edit_spec.proofs.Words.{cond-false, flat_map-append, Text, same, Value, Row, Entry, Tree, CommentTree, DefinitionTree, PreambleTree, EntryTree, value_bytes, row_bytes, tree_bytes, Item, Reading, item_bytes, bytes_of, row_start, EntryTexts, Record, entries_of, crossref, entry_named}
use Rattle.edit_spec.proofs.Words.{target, Chunk, Kept, Replaced, applied, changed, new_keys, holds, any_part, NewEntry, Edit, SetField, DropField, AddEntry, RemoveEntry, MoveEntry, RenameKey, RenameMacro, InlineMacro, IntroduceMacro, RegenerateKeys, AddMany, SetType, UndefineMacro, RenameField, DefineMacro, SetMacro, leaving, defines, is_entry, from_first}
use Rattle.edit_spec.proofs.Words.{with_first_tree, without_first, with_item, items_with, new_row, row_to, row_before, with_field, without_field, of_entry, item_of, in_line, in_braces, with_value, with_crossref, next_number, tree_with_keys, items_with_keys, key_for, name_renamed, use_renamed}
use Rattle.edit_spec.proofs.Words.{use_inlined, uses_inlined, text_of_macro, definition_as, definition_of, part_introduced, introduced, edited, token, entry_chunks, items_chunks, kept_items, kept_rows, pieces_of, option_cases}
use Rattle.std.proofs.Common.{[], take-append-drop, scan, if◌then◌else◌}
use Rattle.std.specs.List.{concat}
use Rattle.bib_spec.specs.Pieces.{Fit}
use Rattle.bib_spec.specs.Bytes.{at_sign, comma, equals_sign}
use Rattle.bib_spec.specs.Tree.{opening_bytes, open_byte, close_byte, after_key_bytes, entry_bytes}
use Rattle.edit_spec.specs.Edits.{Which, EntryChange, SetsField, DropsField, RenamesFields, SetsType, RenamesKey, Removes, Moves, DefinitionChange, SetsValue, Undefines, ChangeEntry, ChangeDefinition, number_of, item_meant, entry_meant, definition_meant, with_tree_at, without_item, with_later_rows, entry_with_one_field, entry_without_one_field, entry_changed, definition_changed}
use Rattle.edit_spec.specs.Edits.{entry_with_rows, entry_with_type, row_renamed, entry_renamed, item_changed, line_end, definition_to, definitions_end, put_after}
use Rattle.edit_spec.specs.EditChunks.{chunks_from, later_rows_chunked, one_field_set, one_field_dropped, groups_without_item, item_moved, entry_chunked, definition_chunked}
use Rattle.edit_spec.specs.EditChunks.{kept_item, after_name, row_name_chunks, names_replaced, each_entry_as, body_and_rest, chunks_from_first, without_body, entry_body, entry_as, value_replaced, field_set, field_dropped, type_replaced, crossref_chunks, tree_key_chunks, item_key_chunks, groups_without, inserted, chunks_after, definition_chunks, moved, appended, changed_items, chunks}
use Rattle.edit_spec.specs.Laws.{chunks_are_files, pieces_lead_to_edited}
use Rattle.edit_spec.proofs.TreeChunks.{chunk_text, assignment_regroup, last-read, read, old-read, new-read, read-append, token_old, token_new, row-parts, last-read, entry-read, items-old, items-new, rows-kept, items-kept}
use Rattle.bib_spec.proofs.Chunks.{chunks-fit, chunks-lead}

abbrev items_bytes : List Item → Text
items_bytes items = flat_map item_bytes items

abbrev rows_bytes : List Row → Text
rows_bytes rows = flat_map row_bytes rows

-- the white space before rows, and the rows
abbrev spaced_rows : Text × List Row → Text
spaced_rows rows = rows.0 ++ rows_bytes rows.1

row_then : (s v b r : Text) → s ++ (v ++ (b ++ r)) ≡ (s ++ (v ++ b)) ++ r
row_then s v b r = simp append_assoc

-- ---- rows

-- a row before others, from its parts
row_and_rest : (row : Row) (rest : Text) → row_start row ++ (value_bytes row.assignment.value ++ (row.assignment.space_after ++ rest)) ≡ row_bytes row ++ rest
row_and_rest row rest = row_then (row_start row) (value_bytes row.assignment.value) row.assignment.space_after rest ∙ ap (λ t. t ++ rest) (sym (row-parts row))

kept_and_rest : (b : Bool) (row : Row) (rows : List Row) →
    row_start row ++ (value_bytes row.assignment.value ++ (row.assignment.space_after ++ read b (kept_rows rows))) ≡ row_bytes row ++ rows_bytes rows
kept_and_rest b row rows = row_and_rest row (read b (kept_rows rows)) ∙ ap (λ t. row_bytes row ++ t) (rows-kept b rows)

module _ (name : Text) (value : Value) where
  set_old : (before : Text) (rows : List Row) → read false (field_set name value before rows) ≡ before ++ rows_bytes rows
  set_old before [] = refl
  set_old before (row ∷ rows) = ⊎_elim
      (λ e. ap (read false) (cond-true (same row.assignment.name name)
      (Kept before ∷ Kept (row_start row) ∷ Replaced (value_bytes row.assignment.value) (value_bytes value) ∷ Kept row.assignment.space_after ∷ kept_rows rows)
      (Kept before ∷ Kept (row_start row) ∷ Kept (value_bytes row.assignment.value) ∷ field_set name value row.assignment.space_after rows) e)
      ∙ ap (λ t. before ++ t) (kept_and_rest false row rows))
      (λ e. ap (read false) (cond-false (same row.assignment.name name)
      (Kept before ∷ Kept (row_start row) ∷ Replaced (value_bytes row.assignment.value) (value_bytes value) ∷ Kept row.assignment.space_after ∷ kept_rows rows)
      (Kept before ∷ Kept (row_start row) ∷ Kept (value_bytes row.assignment.value) ∷ field_set name value row.assignment.space_after rows) e)
      ∙ ap (λ t. before ++ (row_start row ++ (value_bytes row.assignment.value ++ t))) (set_old row.assignment.space_after rows)
      ∙ ap (λ t. before ++ t) (row_and_rest row (rows_bytes rows)))
      (cases_Bool (same row.assignment.name name))

  set_new : (before : Text) (rows : List Row) → read true (field_set name value before rows) ≡ spaced_rows (with_field name value before rows)
  set_new before [] = added (row_start (new_row name value [])) (value_bytes value) before ∙ ap (λ t. t ++ []) (sym (row-parts (new_row name value before)))
    where
      added : (s v b : Text) → (s ++ v) ++ (b ++ []) ≡ (s ++ (v ++ b)) ++ []
      added s v b = simp append_assoc
  set_new before (row ∷ rows) =
      let rest = with_field name value row.assignment.space_after rows in
      ⊎_elim
      (λ e. ap (read true) (cond-true (same row.assignment.name name)
      (Kept before ∷ Kept (row_start row) ∷ Replaced (value_bytes row.assignment.value) (value_bytes value) ∷ Kept row.assignment.space_after ∷ kept_rows rows)
      (Kept before ∷ Kept (row_start row) ∷ Kept (value_bytes row.assignment.value) ∷ field_set name value row.assignment.space_after rows) e)
      ∙ ap (λ t. before ++ t) (kept_and_rest true (row_to value row) rows)
      ∙ sym (ap spaced_rows (cond-true (same row.assignment.name name) (before, row_to value row ∷ rows) (before, row_before rest.0 row ∷ rest.1) e)))
      (λ e. ap (read true) (cond-false (same row.assignment.name name)
      (Kept before ∷ Kept (row_start row) ∷ Replaced (value_bytes row.assignment.value) (value_bytes value) ∷ Kept row.assignment.space_after ∷ kept_rows rows)
      (Kept before ∷ Kept (row_start row) ∷ Kept (value_bytes row.assignment.value) ∷ field_set name value row.assignment.space_after rows) e)
      ∙ ap (λ t. before ++ (row_start row ++ (value_bytes row.assignment.value ++ t))) (set_new row.assignment.space_after rows)
      ∙ ap (λ t. before ++ t) (row_and_rest (row_before rest.0 row) (rows_bytes rest.1))
      ∙ sym (ap spaced_rows (cond-false (same row.assignment.name name) (before, row_to value row ∷ rows) (before, row_before rest.0 row ∷ rest.1) e)))
      (cases_Bool (same row.assignment.name name))

  replaced_old : (rows : List Row) → read false (value_replaced name value rows) ≡ rows_bytes rows
  replaced_old [] = refl
  replaced_old (row ∷ rows) = ⊎_elim
      (λ e. ap (read false) (cond-true (same row.assignment.name name)
      (Kept (row_start row) ∷ Replaced (value_bytes row.assignment.value) (value_bytes value) ∷ Kept row.assignment.space_after ∷ kept_rows rows) (Kept (row_bytes row) ∷ value_replaced name value rows) e)
      ∙ kept_and_rest false row rows)
      (λ e. ap (read false) (cond-false (same row.assignment.name name)
      (Kept (row_start row) ∷ Replaced (value_bytes row.assignment.value) (value_bytes value) ∷ Kept row.assignment.space_after ∷ kept_rows rows) (Kept (row_bytes row) ∷ value_replaced name value rows) e)
      ∙ ap (λ t. row_bytes row ++ t) (replaced_old rows))
      (cases_Bool (same row.assignment.name name))

  replaced_new : (rows : List Row) → read true (value_replaced name value rows) ≡ rows_bytes (with_value name value rows)
  replaced_new [] = refl
  replaced_new (row ∷ rows) = ⊎_elim
      (λ e. ap (read true) (cond-true (same row.assignment.name name)
      (Kept (row_start row) ∷ Replaced (value_bytes row.assignment.value) (value_bytes value) ∷ Kept row.assignment.space_after ∷ kept_rows rows) (Kept (row_bytes row) ∷ value_replaced name value rows) e)
      ∙ kept_and_rest true (row_to value row) rows
      ∙ sym (ap rows_bytes (cond-true (same row.assignment.name name) (row_to value row ∷ rows) (row ∷ with_value name value rows) e)))
      (λ e. ap (read true) (cond-false (same row.assignment.name name)
      (Kept (row_start row) ∷ Replaced (value_bytes row.assignment.value) (value_bytes value) ∷ Kept row.assignment.space_after ∷ kept_rows rows) (Kept (row_bytes row) ∷ value_replaced name value rows) e)
      ∙ ap (λ t. row_bytes row ++ t) (replaced_new rows)
      ∙ sym (ap rows_bytes (cond-false (same row.assignment.name name) (row_to value row ∷ rows) (row ∷ with_value name value rows) e)))
      (cases_Bool (same row.assignment.name name))

module _ (name : Text) where
  gone_row : (s v b r : Text) → (s ++ v) ++ (b ++ r) ≡ (s ++ (v ++ b)) ++ r
  gone_row s v b r = simp append_assoc

  drop_old : (before : Text) (rows : List Row) → read false (field_dropped name before rows) ≡ before ++ rows_bytes rows
  drop_old before [] = refl
  drop_old before (row ∷ rows) = ⊎_elim
      (λ e. ap (read false) (cond-true (same row.assignment.name name)
      (Kept before ∷ Replaced (row_start row ++ value_bytes row.assignment.value) [] ∷ Kept row.assignment.space_after ∷ kept_rows rows)
      (Kept before ∷ Kept (row_start row) ∷ Kept (value_bytes row.assignment.value) ∷ field_dropped name row.assignment.space_after rows) e)
      ∙ ap (λ t. before ++ t) (gone_row (row_start row) (value_bytes row.assignment.value) row.assignment.space_after (read false (kept_rows rows))
      ∙ ap₂ ◌++◌ (sym (row-parts row)) (rows-kept false rows)))
      (λ e. ap (read false) (cond-false (same row.assignment.name name)
      (Kept before ∷ Replaced (row_start row ++ value_bytes row.assignment.value) [] ∷ Kept row.assignment.space_after ∷ kept_rows rows)
      (Kept before ∷ Kept (row_start row) ∷ Kept (value_bytes row.assignment.value) ∷ field_dropped name row.assignment.space_after rows) e)
      ∙ ap (λ t. before ++ (row_start row ++ (value_bytes row.assignment.value ++ t))) (drop_old row.assignment.space_after rows)
      ∙ ap (λ t. before ++ t) (row_and_rest row (rows_bytes rows)))
      (cases_Bool (same row.assignment.name name))

  drop_new : (before : Text) (rows : List Row) → read true (field_dropped name before rows) ≡ spaced_rows (without_field name before rows)
  drop_new before [] = refl
  drop_new before (row ∷ rows) =
      let rest = without_field name row.assignment.space_after rows in
      ⊎_elim
      (λ e. ap (read true) (cond-true (same row.assignment.name name)
      (Kept before ∷ Replaced (row_start row ++ value_bytes row.assignment.value) [] ∷ Kept row.assignment.space_after ∷ kept_rows rows)
      (Kept before ∷ Kept (row_start row) ∷ Kept (value_bytes row.assignment.value) ∷ field_dropped name row.assignment.space_after rows) e)
      ∙ ap (λ t. before ++ (row.assignment.space_after ++ t)) (rows-kept true rows)
      ∙ sym (append_assoc before row.assignment.space_after (rows_bytes rows))
      ∙ sym (ap spaced_rows (cond-true (same row.assignment.name name) (before ++ row.assignment.space_after, rows) (before, row_before rest.0 row ∷ rest.1) e)))
      (λ e. ap (read true) (cond-false (same row.assignment.name name)
      (Kept before ∷ Replaced (row_start row ++ value_bytes row.assignment.value) [] ∷ Kept row.assignment.space_after ∷ kept_rows rows)
      (Kept before ∷ Kept (row_start row) ∷ Kept (value_bytes row.assignment.value) ∷ field_dropped name row.assignment.space_after rows) e)
      ∙ ap (λ t. before ++ (row_start row ++ (value_bytes row.assignment.value ++ t))) (drop_new row.assignment.space_after rows)
      ∙ ap (λ t. before ++ t) (row_and_rest (row_before rest.0 row) (rows_bytes rest.1))
      ∙ sym (ap spaced_rows (cond-false (same row.assignment.name name) (before ++ row.assignment.space_after, rows) (before, row_before rest.0 row ∷ rest.1) e)))
      (cases_Bool (same row.assignment.name name))

-- ---- from the first item that passes a test

module _ (test : Tree → Bool) (change : Item → List Item → List Chunk) where
  first_old : ((item : Item) (items : List Item) → read false (change item items) ≡ items_bytes (item ∷ items)) → (items : List Item) →
      read false (chunks_from_first test change items) ≡ items_bytes items
  first_old h [] = refl
  first_old h (item ∷ items) = ⊎_elim
      (λ e. ap (read false) (cond-true (test item.tree) (change item items) (kept_item item ∷ chunks_from_first test change items) e) ∙ h item items)
      (λ e. ap (read false) (cond-false (test item.tree) (change item items) (kept_item item ∷ chunks_from_first test change items) e) ∙ ap (λ t. item_bytes item ++ t) (first_old h items))
      (cases_Bool (test item.tree))

  first_new : (becomes : List Item → List Item) → ((item : Item) (items : List Item) → read true (change item items) ≡ items_bytes (becomes (item ∷ items))) → (items : List Item) →
      read true (chunks_from_first test change items) ≡ items_bytes (from_first test becomes items)
  first_new becomes h [] = refl
  first_new becomes h (item ∷ items) = ⊎_elim
      (λ e. ap (read true) (cond-true (test item.tree) (change item items) (kept_item item ∷ chunks_from_first test change items) e) ∙ h item items
      ∙ sym (ap items_bytes (cond-true (test item.tree) (becomes (item ∷ items)) (item ∷ from_first test becomes items) e)))
      (λ e. ap (read true) (cond-false (test item.tree) (change item items) (kept_item item ∷ chunks_from_first test change items) e) ∙ ap (λ t. item_bytes item ++ t) (first_new becomes h items)
      ∙ sym (ap items_bytes (cond-false (test item.tree) (becomes (item ∷ items)) (item ∷ from_first test becomes items) e)))
      (cases_Bool (test item.tree))

-- a body, and all after it
rest-read : (b : Bool) (body : List Chunk) (item : Item) (items : List Item) (bytes : Text) → read b body ≡ bytes → read b (body_and_rest body item items) ≡ (bytes ++ item.trail) ++ items_bytes items
rest-read b body item items bytes e =
    read-append b body (Kept item.trail ∷ kept_items items) ∙ ap₂ (λ x y. x ++ (item.trail ++ y)) e (items-kept b items) ∙ sym (append_assoc bytes item.trail (items_bytes items))

-- an entry that becomes another one
module _ (entry_become : Entry → Entry) (entry_chunked : Entry → List Chunk)
    (old : (e : Entry) → read false (entry_chunked e) ≡ entry_bytes e) (new : (e : Entry) → read true (entry_chunked e) ≡ entry_bytes (entry_become e))
  where
    body_old : (tree : Tree) → read false (entry_body entry_chunked tree) ≡ tree_bytes tree
    body_old (EntryTree e) = old e
    body_old (CommentTree h) = append-nil (tree_bytes (CommentTree h))
    body_old (DefinitionTree d) = append-nil (tree_bytes (DefinitionTree d))
    body_old (PreambleTree p) = append-nil (tree_bytes (PreambleTree p))

    body_new : (tree : Tree) → read true (entry_body entry_chunked tree) ≡ tree_bytes (of_entry entry_become tree)
    body_new (EntryTree e) = new e
    body_new (CommentTree h) = append-nil (tree_bytes (CommentTree h))
    body_new (DefinitionTree d) = append-nil (tree_bytes (DefinitionTree d))
    body_new (PreambleTree p) = append-nil (tree_bytes (PreambleTree p))

    became_old : (key : Text) (items : List Item) → read false (chunks_from_first (is_entry key) (entry_as entry_chunked) items) ≡ items_bytes items
    became_old key items = first_old (is_entry key) (entry_as entry_chunked) (λ item items. rest-read false (entry_body entry_chunked item.tree) item items (tree_bytes item.tree) (body_old item.tree)) items

    became_new : (key : Text) (items : List Item) → read true (chunks_from_first (is_entry key) (entry_as entry_chunked) items) ≡ items_bytes (from_first (is_entry key) (with_first_tree (of_entry entry_become)) items)
    became_new key items = first_new (is_entry key) (entry_as entry_chunked) (with_first_tree (of_entry entry_become))
        (λ item items. rest-read true (entry_body entry_chunked item.tree) item items (tree_bytes (of_entry entry_become item.tree)) (body_new item.tree)) items

    -- and so for every entry
    each_old : (items : List Item) → read false (flat_map (each_entry_as entry_chunked) items) ≡ items_bytes items
    each_old [] = refl
    each_old (item ∷ items) = read-append false (each_entry_as entry_chunked item) (flat_map (each_entry_as entry_chunked) items)
        ∙ ap₂ ◌++◌ (last-read false (entry_body entry_chunked item.tree) item.trail (tree_bytes item.tree) (body_old item.tree)) (each_old items)

    each_new : (items : List Item) → read true (flat_map (each_entry_as entry_chunked) items) ≡ items_bytes (map (item_changed entry_become) items)
    each_new [] = refl
    each_new (item ∷ items) = read-append true (each_entry_as entry_chunked item) (flat_map (each_entry_as entry_chunked) items)
        ∙ ap₂ ◌++◌ (last-read true (entry_body entry_chunked item.tree) item.trail (tree_bytes (of_entry entry_become item.tree)) (body_new item.tree)) (each_new items)

-- an entry with other rows
module _ (become : Entry → Text × List Row) (body : Entry → List Chunk)
    (old : (e : Entry) → read false (body e) ≡ e.space_after_key ++ rows_bytes e.rows) (new : (e : Entry) → read true (body e) ≡ spaced_rows (become e))
  where
    abbrev rows_chunked : Entry → List Chunk
    rows_chunked e = entry_chunks (Kept e.key) (body e) e

    abbrev rows_become : Entry → Entry
    rows_become e = entry_with_rows (become e) e

    rows_old : (e : Entry) → read false (rows_chunked e) ≡ entry_bytes e
    rows_old e = entry-read false (Kept e.key) (body e) e e.key e.space_after_key e.rows refl (old e)

    rows_new : (e : Entry) → read true (rows_chunked e) ≡ entry_bytes (rows_become e)
    rows_new e = entry-read true (Kept e.key) (body e) e e.key (become e).0 (become e).1 refl (new e)

    entry_old : (key : Text) (items : List Item) → read false (chunks_from_first (is_entry key) (entry_as rows_chunked) items) ≡ items_bytes items
    entry_old key items = became_old rows_become rows_chunked rows_old rows_new key items

    entry_new : (key : Text) (items : List Item) → read true (chunks_from_first (is_entry key) (entry_as rows_chunked) items) ≡ items_bytes (from_first (is_entry key) (with_first_tree (of_entry rows_become)) items)
    entry_new key items = became_new rows_become rows_chunked rows_old rows_new key items

-- ---- names of fields

module _ (from to : Text) where
  name-read : (b : Bool) (row : Row) (now : Text) → chunk_text b (token row.assignment.name (name_renamed from to row.assignment.name)) ≡ now →
      read b (row_name_chunks from to row) ≡ row_bytes (record row { assignment = record row.assignment { name = now } })
  name-read b row now is =
      ap₂ (λ x y. (comma ∷ row.space_before_name) ++ (x ++ y)) is (append-nil (after_name row))
      ∙ ap (λ t. (comma ∷ row.space_before_name) ++ t)
      (assignment_regroup now row.assignment.space_before_equals (equals_sign ∷ row.assignment.space_before_value) (value_bytes row.assignment.value) row.assignment.space_after)

  names_old : (rows : List Row) → read false (flat_map (row_name_chunks from to) rows) ≡ rows_bytes rows
  names_old [] = refl
  names_old (row ∷ rows) = read-append false (row_name_chunks from to row) (flat_map (row_name_chunks from to) rows)
      ∙ ap₂ ◌++◌ (name-read false row row.assignment.name (token_old row.assignment.name (name_renamed from to row.assignment.name))) (names_old rows)

  names_new : (rows : List Row) → read true (flat_map (row_name_chunks from to) rows) ≡ rows_bytes (map (row_renamed from to) rows)
  names_new [] = refl
  names_new (row ∷ rows) = read-append true (row_name_chunks from to row) (flat_map (row_name_chunks from to) rows)
      ∙ ap₂ ◌++◌ (name-read true row (changed (name_renamed from to) row.assignment.name) (token_new row.assignment.name (name_renamed from to row.assignment.name))) (names_new rows)

  renamed_old : (e : Entry) → read false (names_replaced from to e) ≡ entry_bytes e
  renamed_old e = entry-read false (Kept e.key) (Kept e.space_after_key ∷ flat_map (row_name_chunks from to) e.rows) e e.key e.space_after_key e.rows refl (ap (λ t. e.space_after_key ++ t) (names_old e.rows))

  renamed_new : (e : Entry) → read true (names_replaced from to e) ≡ entry_bytes (entry_renamed from to e)
  renamed_new e =
      entry-read true (Kept e.key) (Kept e.space_after_key ∷ flat_map (row_name_chunks from to) e.rows) e e.key e.space_after_key (map (row_renamed from to) e.rows) refl (ap (λ t. e.space_after_key ++ t) (names_new e.rows))

-- ---- types

type_regroup : (a s t b o r k y : Text) → (a ++ s) ++ (t ++ ((b ++ (o ++ r)) ++ (k ++ y))) ≡ (((a ++ (s ++ t)) ++ b) ++ (o ++ r)) ++ k ++ y
type_regroup a s t b o r k y = simp append_assoc

module _ (kind_name : Text) where
  type-read : (b : Bool) (e : Entry) (now : Text) → chunk_text b (Replaced e.opening.head.type_name kind_name) ≡ now → read b (type_replaced kind_name e) ≡ entry_bytes (entry_with_type now e)
  type-read b e now is =
      ap₂ (λ x y. (at_sign ∷ e.opening.head.space_before_type) ++ (x ++ ((e.opening.space_before_delimiter ++ open_byte e.opening.delimiter ∷ e.opening.space_after) ++ y))) is (append-nil (e.key ++ after_key_bytes e))
      ∙ type_regroup (at_sign ∷ []) e.opening.head.space_before_type now e.opening.space_before_delimiter (open_byte e.opening.delimiter ∷ []) e.opening.space_after e.key (after_key_bytes e)

  type_old : (e : Entry) → read false (type_replaced kind_name e) ≡ entry_bytes e
  type_old e = type-read false e e.opening.head.type_name refl

  type_new : (e : Entry) → read true (type_replaced kind_name e) ≡ entry_bytes (entry_with_type kind_name e)
  type_new e = type-read true e kind_name refl

-- ---- removals

-- the remaining items, if the first one is removed, and if it is not
abbrev found : Text → Item → List Item → Reading
found front item items = record { front = front ++ item.trail; items = items }

abbrev other : (Tree → Bool) → Text → Item → List Item → Reading
other test front item items = let rest = without_first test item.trail items in record { front = front; items = record item { trail = rest.front } ∷ rest.items }

module _ (test : Tree → Bool) where
  gone_regroup : (f t r : Text) → f ++ (t ++ r) ≡ (f ++ t) ++ r
  gone_regroup f t r = simp append_assoc

  -- the text before, the body of a kept item, and what the rest makes of its trail
  kept_regroup : (front body trail_now rest trail_was rest_was : Text) → trail_now ++ rest ≡ trail_was ++ rest_was → front ++ ((body ++ trail_was) ++ rest_was) ≡ front ++ ((body ++ trail_now) ++ rest)
  kept_regroup front body trail_now rest trail_was rest_was e =
      ap (λ t. front ++ t) (append_assoc body trail_was rest_was ∙ ap (λ t. body ++ t) (sym e) ∙ sym (append_assoc body trail_now rest))

  removed_old : (item : Item) (items : List Item) → read false (without_body item items) ≡ items_bytes (item ∷ items)
  removed_old item items = rest-read false (Replaced (tree_bytes item.tree) [] ∷ []) item items (tree_bytes item.tree) (append-nil (tree_bytes item.tree))

  removed_new : (front : Text) (items : List Item) → front ++ read true (chunks_from_first test without_body items) ≡ bytes_of (without_first test front items)
  removed_new front [] = refl
  removed_new front (item ∷ items) =
      let rest = without_first test item.trail items in
      ⊎_elim
      (λ e. ap (λ c. front ++ read true c) (cond-true (test item.tree) (without_body item items) (kept_item item ∷ chunks_from_first test without_body items) e)
      ∙ ap (λ t. front ++ t) (rest-read true (Replaced (tree_bytes item.tree) [] ∷ []) item items [] refl)
      ∙ gone_regroup front item.trail (items_bytes items)
      ∙ sym (ap bytes_of (cond-true (test item.tree) (found front item items) (other test front item items) e)))
      (λ e. ap (λ c. front ++ read true c) (cond-false (test item.tree) (without_body item items) (kept_item item ∷ chunks_from_first test without_body items) e)
      ∙ kept_regroup front (tree_bytes item.tree) rest.front (items_bytes rest.items) item.trail (read true (chunks_from_first test without_body items)) (sym (removed_new item.trail items))
      ∙ sym (ap bytes_of (cond-false (test item.tree) (found front item items) (other test front item items) e)))
      (cases_Bool (test item.tree))

-- ---- an inlined macro

module _ (name held : Text) where
  abbrev uses_out : Item → List Item → List Chunk
  uses_out item items = Replaced (tree_bytes item.tree) [] ∷ Kept item.trail ∷ items_chunks leaving (use_inlined name held) items

  abbrev uses_gone : List Item → List Item
  uses_gone items = items_with leaving (use_inlined name held) items

  abbrev inlined : List Item → List Item
  inlined items = from_first (defines name) (uses_inlined name held) items

  inlined_old : (item : Item) (items : List Item) → read false (uses_out item items) ≡ items_bytes (item ∷ items)
  inlined_old item items = ap (λ t. tree_bytes item.tree ++ (item.trail ++ t)) (items-old leaving (use_inlined name held) items) ∙ sym (append_assoc (tree_bytes item.tree) item.trail (items_bytes items))

  inlined_new : (front : Text) (items : List Item) → front ++ read true (chunks_from_first (defines name) uses_out items) ≡ bytes_of (without_first (defines name) front (inlined items))
  inlined_new front [] = refl
  inlined_new front (item ∷ items) =
      let rest = without_first (defines name) item.trail (inlined items) in
      ⊎_elim
      (λ e. ap (λ c. front ++ read true c) (cond-true (defines name item.tree) (uses_out item items) (kept_item item ∷ chunks_from_first (defines name) uses_out items) e)
      ∙ ap (λ t. front ++ (item.trail ++ t)) (items-new leaving (use_inlined name held) items)
      ∙ sym (append_assoc front item.trail (items_bytes (uses_gone items)))
      ∙ sym (ap (λ l. bytes_of (without_first (defines name) front l)) (cond-true (defines name item.tree) (item ∷ uses_gone items) (item ∷ inlined items) e)
      ∙ ap bytes_of (cond-true (defines name item.tree) (found front item (uses_gone items)) (other (defines name) front item (uses_gone items)) e)))
      (λ e. ap (λ c. front ++ read true c) (cond-false (defines name item.tree) (uses_out item items) (kept_item item ∷ chunks_from_first (defines name) uses_out items) e)
      ∙ kept_regroup (defines name) front (tree_bytes item.tree) rest.front (items_bytes rest.items) item.trail (read true (chunks_from_first (defines name) uses_out items)) (sym (inlined_new item.trail items))
      ∙ sym (ap (λ l. bytes_of (without_first (defines name) front l)) (cond-false (defines name item.tree) (item ∷ uses_gone items) (item ∷ inlined items) e)
      ∙ ap bytes_of (cond-false (defines name item.tree) (found front item (inlined items)) (other (defines name) front item (inlined items)) e)))
      (cases_Bool (defines name item.tree))

-- ---- keys

module _ (new : ℕ → Option Text) (entries : List EntryTexts) where
  crossref_old : (o : Option Text) (rows : List Row) → read false (crossref_chunks o rows) ≡ rows_bytes rows
  crossref_old None rows = rows-kept false rows
  crossref_old (Some key) rows = replaced_old crossref (in_braces key) rows

  crossref_new : (o : Option Text) (rows : List Row) → read true (crossref_chunks o rows) ≡ rows_bytes (with_crossref o rows)
  crossref_new None rows = rows-kept true rows
  crossref_new (Some key) rows = replaced_new crossref (in_braces key) rows

  key_tree_old : (n : ℕ) (tree : Tree) → read false (tree_key_chunks new entries n tree) ≡ tree_bytes tree
  key_tree_old n (EntryTree e) = entry-read false (token e.key (new n)) (Kept e.space_after_key ∷ crossref_chunks (option_and_then new (target entries n)) e.rows) e e.key e.space_after_key e.rows
      (token_old e.key (new n)) (ap (λ t. e.space_after_key ++ t) (crossref_old (option_and_then new (target entries n)) e.rows))
  key_tree_old n (CommentTree h) = append-nil (tree_bytes (CommentTree h))
  key_tree_old n (DefinitionTree d) = append-nil (tree_bytes (DefinitionTree d))
  key_tree_old n (PreambleTree p) = append-nil (tree_bytes (PreambleTree p))

  key_tree_new : (n : ℕ) (tree : Tree) → read true (tree_key_chunks new entries n tree) ≡ tree_bytes (tree_with_keys new entries n tree)
  key_tree_new n (EntryTree e) = entry-read true (token e.key (new n)) (Kept e.space_after_key ∷ crossref_chunks (option_and_then new (target entries n)) e.rows) e
      (unwrap_or (new n) e.key) e.space_after_key (with_crossref (option_and_then new (target entries n)) e.rows)
      (token_new e.key (new n)) (ap (λ t. e.space_after_key ++ t) (crossref_new (option_and_then new (target entries n)) e.rows))
  key_tree_new n (CommentTree h) = append-nil (tree_bytes (CommentTree h))
  key_tree_new n (DefinitionTree d) = append-nil (tree_bytes (DefinitionTree d))
  key_tree_new n (PreambleTree p) = append-nil (tree_bytes (PreambleTree p))

  abbrev keyed_chunks : ℕ → List Item → List Chunk
  keyed_chunks n items = flat_map (λ chunks. chunks) (scan (λ n item. next_number n item.tree) (item_key_chunks new entries) n items)

  keys_old : (n : ℕ) (items : List Item) → read false (keyed_chunks n items) ≡ items_bytes items
  keys_old n [] = refl
  keys_old n (item ∷ items) = read-append false (item_key_chunks new entries n item) (keyed_chunks (next_number n item.tree) items)
      ∙ ap₂ ◌++◌ (last-read false (tree_key_chunks new entries n item.tree) item.trail (tree_bytes item.tree) (key_tree_old n item.tree)) (keys_old (next_number n item.tree) items)

  keys_new : (n : ℕ) (items : List Item) → read true (keyed_chunks n items) ≡ items_bytes (items_with_keys new entries n items)
  keys_new n [] = refl
  keys_new n (item ∷ items) = read-append true (item_key_chunks new entries n item) (keyed_chunks (next_number n item.tree) items)
      ∙ ap₂ ◌++◌ (last-read true (tree_key_chunks new entries n item.tree) item.trail (tree_bytes (tree_with_keys new entries n item.tree)) (key_tree_new n item.tree)) (keys_new (next_number n item.tree) items)

-- ---- a moved entry

groups-read : (b : Bool) (groups : List (List Chunk)) → read b (flat_map (λ chunks. chunks) groups) ≡ concat (map (read b) groups)
groups-read b [] = refl
groups-read b (group ∷ groups) = read-append b group (flat_map (λ chunks. chunks) groups) ∙ ap (λ t. read b group ++ t) (groups-read b groups)

items-concat : (items : List Item) → items_bytes items ≡ concat (map item_bytes items)
items-concat [] = refl
items-concat (item ∷ items) = ap (λ t. item_bytes item ++ t) (items-concat items)

concat-append : (xs ys : List Text) → concat (xs ++ ys) ≡ concat xs ++ concat ys
concat-append [] ys = refl
concat-append (x ∷ xs) ys = ap (λ t. x ++ t) (concat-append xs ys) ∙ sym (append_assoc x (concat xs) (concat ys))

insert-map : {X Y : Type 0} (f : X → Y) (xs : List X) (place : ℕ) (x : X) → map f (insert xs place x) ≡ insert (map f xs) place (f x)
insert-map f xs zero x = refl
insert-map f [] (suc place) x = refl
insert-map f (y ∷ ys) (suc place) x = ap (λ l. f y ∷ l) (insert-map f ys place x)

-- inserting the empty text does not change the joined texts
insert-nothing : (xs : List Text) (place : ℕ) → concat (insert xs place []) ≡ concat xs
insert-nothing xs zero = refl
insert-nothing [] (suc place) = refl
insert-nothing (x ∷ xs) (suc place) = ap (λ t. x ++ t) (insert-nothing xs place)

singles : (b : Bool) (items : List Item) → map (read b) (map (λ kept. kept_item kept ∷ []) items) ≡ map item_bytes items
singles b [] = refl
singles b (item ∷ items) = ap₂ ◌∷◌ (append-nil (item_bytes item)) (singles b items)

module _ (test : Tree → Bool) where
  abbrev groups : List Item → List Chunk × List (List Chunk)
  groups items = groups_without test items

  abbrev gone : Item → List Item → List Chunk × List (List Chunk)
  gone item items = (Replaced (tree_bytes item.tree) [] ∷ Kept item.trail ∷ [], map (λ kept. kept_item kept ∷ []) items)

  abbrev stays : Item → List Item → List Chunk × List (List Chunk)
  stays item items = ([], (kept_item item ∷ (groups items).0) ∷ (groups items).1)

  groups_old : (items : List Item) → read false (groups items).0 ++ concat (map (read false) (groups items).1) ≡ concat (map item_bytes items)
  groups_old [] = refl
  groups_old (item ∷ items) = ⊎_elim
      (λ e. ap (λ g. read false g.0 ++ concat (map (read false) g.1)) (cond-true (test item.tree) (gone item items) (stays item items) e)
      ∙ ap₂ (λ x y. (tree_bytes item.tree ++ x) ++ concat y) (append-nil item.trail) (singles false items))
      (λ e. ap (λ g. read false g.0 ++ concat (map (read false) g.1)) (cond-false (test item.tree) (gone item items) (stays item items) e)
      ∙ append_assoc (item_bytes item) (read false (groups items).0) (concat (map (read false) (groups items).1))
      ∙ ap (λ t. item_bytes item ++ t) (groups_old items))
      (cases_Bool (test item.tree))

  front_new : (front : Text) (items : List Item) → (without_first test front items).front ≡ front ++ read true (groups items).0
  front_new front [] = sym (append-nil front)
  front_new front (item ∷ items) = ⊎_elim
      (λ e. ap (λ db. db.front) (cond-true (test item.tree) (found front item items) (other test front item items) e)
      ∙ sym (ap (λ t. front ++ t) (ap (λ g. read true g.0) (cond-true (test item.tree) (gone item items) (stays item items) e) ∙ append-nil item.trail)))
      (λ e. ap (λ db. db.front) (cond-false (test item.tree) (found front item items) (other test front item items) e)
      ∙ sym (append-nil front)
      ∙ sym (ap (λ t. front ++ t) (ap (λ g. read true g.0) (cond-false (test item.tree) (gone item items) (stays item items) e))))
      (cases_Bool (test item.tree))

  items_new : (front : Text) (items : List Item) → map (read true) (groups items).1 ≡ map item_bytes (without_first test front items).items
  items_new front [] = refl
  items_new front (item ∷ items) =
      let rest = without_first test item.trail items in
      ⊎_elim
      (λ e. ap (λ g. map (read true) g.1) (cond-true (test item.tree) (gone item items) (stays item items) e) ∙ singles true items
      ∙ sym (ap (λ db. map item_bytes db.items) (cond-true (test item.tree) (found front item items) (other test front item items) e)))
      (λ e. ap (λ g. map (read true) g.1) (cond-false (test item.tree) (gone item items) (stays item items) e)
      ∙ ap₂ ◌∷◌ (append_assoc (tree_bytes item.tree) item.trail (read true (groups items).0) ∙ ap (λ t. tree_bytes item.tree ++ t) (sym (front_new item.trail items))) (items_new item.trail items)
      ∙ sym (ap (λ db. map item_bytes db.items) (cond-false (test item.tree) (found front item items) (other test front item items) e)))
      (cases_Bool (test item.tree))

module _ (key : Text) (place : ℕ) (items : List Item) (item : Item) where
  abbrev its_groups : List Chunk × List (List Chunk)
  its_groups = groups_without (is_entry key) items

  abbrev new_group : List Chunk
  new_group = inserted (in_line item.tree)

  moved-read : (b : Bool) → read b (moved key place items item) ≡ read b its_groups.0 ++ concat (insert (map (read b) its_groups.1) place (read b new_group))
  moved-read b = read-append b its_groups.0 (flat_map (λ chunks. chunks) (insert its_groups.1 place new_group))
      ∙ ap (λ t. read b its_groups.0 ++ t) (groups-read b (insert its_groups.1 place new_group) ∙ ap concat (insert-map (read b) its_groups.1 place new_group))

  moved_old : read false (moved key place items item) ≡ items_bytes items
  moved_old = moved-read false ∙ ap (λ t. read false its_groups.0 ++ t) (insert-nothing (map (read false) its_groups.1) place) ∙ groups_old (is_entry key) items ∙ sym (items-concat items)

  moved_new : (front : Text) → front ++ read true (moved key place items item) ≡
      (without_first (is_entry key) front items).front ++ items_bytes (insert (without_first (is_entry key) front items).items place (in_line item.tree))
  moved_new front =
      ap (λ t. front ++ t) (moved-read true)
      ∙ sym (append_assoc front (read true its_groups.0) (concat (insert (map (read true) its_groups.1) place (read true new_group))))
      ∙ ap₂ ◌++◌ (sym (front_new (is_entry key) front items))
      (ap₂ (λ l t. concat (insert l place t)) (items_new (is_entry key) front items) (append-nil (item_bytes (in_line item.tree)))
      ∙ sym (ap concat (insert-map item_bytes (without_first (is_entry key) front items).items place (in_line item.tree)))
      ∙ sym (items-concat (insert (without_first (is_entry key) front items).items place (in_line item.tree))))

-- ---- added entries

items-append : (xs ys : List Item) → items_bytes (xs ++ ys) ≡ items_bytes xs ++ items_bytes ys
items-append xs ys = flat_map-append item_bytes xs ys

added-read : (b : Bool) (before after : List Item) (put : List Chunk) → read b (kept_items before ++ (put ++ kept_items after)) ≡ items_bytes before ++ (read b put ++ items_bytes after)
added-read b before after put = read-append b (kept_items before) (put ++ kept_items after) ∙ ap₂ ◌++◌ (items-kept b before) (read-append b put (kept_items after) ∙ ap (λ t. read b put ++ t) (items-kept b after))

appended_old : (news : List NewEntry) → read false (appended news) ≡ []
appended_old [] = refl
appended_old (new ∷ news) = refl

appended_new : (news : List NewEntry) → read true (appended news) ≡ items_bytes (map item_of news)
appended_new [] = refl
appended_new (new ∷ news) = append-nil (items_bytes (map item_of (new ∷ news)))

-- ---- a definition put in

stay_regroup : (b t r : Text) → b ++ (t ++ r) ≡ (b ++ t) ++ r
stay_regroup b t r = simp append_assoc

put_regroup : (b l d t r : Text) → b ++ ((l ++ d) ++ (t ++ r)) ≡ (b ++ l) ++ ((d ++ t) ++ r)
put_regroup b l d t r = simp append_assoc

module _ (tree : Tree) where
  after_old : (n : ℕ) (items : List Item) → read false (chunks_after n tree items) ≡ items_bytes items
  after_old zero items = items-kept false items
  after_old (suc n) [] = refl
  after_old (suc zero) (item ∷ items) =
      stay_regroup (tree_bytes item.tree) item.trail (read false (kept_items items)) ∙ ap (λ t. item_bytes item ++ t) (items-kept false items)
  after_old (suc (suc n)) (item ∷ items) = ap (λ t. item_bytes item ++ t) (after_old (suc n) items)

  after_new : (n : ℕ) (items : List Item) → read true (chunks_after n tree items) ≡ items_bytes (put_after n tree items)
  after_new zero items = ap (λ t. item_bytes (in_line tree) ++ t) (items-kept true items)
  after_new (suc n) [] = refl
  after_new (suc zero) (item ∷ items) =
      put_regroup (tree_bytes item.tree) line_end (tree_bytes tree) item.trail (read true (kept_items items))
      ∙ ap (λ t. item_bytes (in_line item.tree) ++ ((tree_bytes tree ++ item.trail) ++ t)) (items-kept true items)
  after_new (suc (suc n)) (item ∷ items) = ap (λ t. item_bytes item ++ t) (after_new (suc n) items)

-- ---- the value of a definition

assigned_regroup : (o n x y v s c : Text) → (o ++ (n ++ (x ++ y))) ++ (v ++ (s ++ c)) ≡ o ++ (n ++ x ++ y ++ v ++ s) ++ c
assigned_regroup o n x y v s c = simp append_assoc

value_regroup : (o n x y v s c : Text) → (o ++ (n ++ (x ++ y))) ++ (v ++ ((s ++ c) ++ [])) ≡ o ++ (n ++ x ++ y ++ v ++ s) ++ c
value_regroup o n x y v s c = ap (λ t. (o ++ (n ++ (x ++ y))) ++ (v ++ t)) (append-nil (s ++ c)) ∙ assigned_regroup o n x y v s c

module _ (name : Text) (value : Value) where
  definition_old : (tree : Tree) → read false (definition_chunks value tree) ≡ tree_bytes tree
  definition_old (DefinitionTree d) =
      value_regroup (opening_bytes d.opening) d.assignment.name d.assignment.space_before_equals (equals_sign ∷ d.assignment.space_before_value)
      (value_bytes d.assignment.value) d.assignment.space_after (close_byte d.opening.delimiter ∷ [])
  definition_old (CommentTree h) = append-nil (tree_bytes (CommentTree h))
  definition_old (PreambleTree p) = append-nil (tree_bytes (PreambleTree p))
  definition_old (EntryTree e) = append-nil (tree_bytes (EntryTree e))

  definition_new : (tree : Tree) → read true (definition_chunks value tree) ≡ tree_bytes (definition_to value tree)
  definition_new (DefinitionTree d) =
      value_regroup (opening_bytes d.opening) d.assignment.name d.assignment.space_before_equals (equals_sign ∷ d.assignment.space_before_value)
      (value_bytes value) d.assignment.space_after (close_byte d.opening.delimiter ∷ [])
  definition_new (CommentTree h) = append-nil (tree_bytes (CommentTree h))
  definition_new (PreambleTree p) = append-nil (tree_bytes (PreambleTree p))
  definition_new (EntryTree e) = append-nil (tree_bytes (EntryTree e))

  abbrev definition_set : Item → List Item → List Chunk
  definition_set item items = body_and_rest (definition_chunks value item.tree) item items

  value_old : (items : List Item) → read false (chunks_from_first (defines name) definition_set items) ≡ items_bytes items
  value_old items = first_old (defines name) definition_set
      (λ item items. rest-read false (definition_chunks value item.tree) item items (tree_bytes item.tree) (definition_old item.tree)) items

  value_new : (items : List Item) → read true (chunks_from_first (defines name) definition_set items) ≡ items_bytes (from_first (defines name) (with_first_tree (definition_to value)) items)
  value_new items = first_new (defines name) definition_set (with_first_tree (definition_to value))
      (λ item items. rest-read true (definition_chunks value item.tree) item items (tree_bytes (definition_to value item.tree)) (definition_new item.tree)) items

-- ---- one of several

-- rows after the first of a name
module _ (name : Text) (change : Text → List Row → Text × List Row) (chunked : Text → List Row → List Chunk) where
  later_old : ((before : Text) (rows : List Row) → read false (chunked before rows) ≡ before ++ rows_bytes rows) → (k : ℕ) (before : Text) (rows : List Row) →
      read false (later_rows_chunked name k chunked before rows) ≡ before ++ rows_bytes rows
  later_old h zero before rows = h before rows
  later_old h (suc k) before [] = refl
  later_old h (suc k) before (row ∷ rows) =
      ap (λ t. before ++ (row_start row ++ (value_bytes row.assignment.value ++ t))) (later_old h (if same row.assignment.name name then k else suc k) row.assignment.space_after rows)
      ∙ ap (λ t. before ++ t) (row_and_rest row (rows_bytes rows))

  later_new : ((before : Text) (rows : List Row) → read true (chunked before rows) ≡ spaced_rows (change before rows)) → (k : ℕ) (before : Text) (rows : List Row) →
      read true (later_rows_chunked name k chunked before rows) ≡ spaced_rows (with_later_rows name k change before rows)
  later_new h zero before rows = h before rows
  later_new h (suc k) before [] = refl
  later_new h (suc k) before (row ∷ rows) =
      let next : ℕ = if same row.assignment.name name then k else suc k in
      let rest = with_later_rows name next change row.assignment.space_after rows in
      ap (λ t. before ++ (row_start row ++ (value_bytes row.assignment.value ++ t))) (later_new h next row.assignment.space_after rows)
      ∙ ap (λ t. before ++ t) (row_and_rest (row_before rest.0 row) (rows_bytes rest.1))

-- from item n on
module _ (change : Item → List Item → List Chunk) where
  from_old : ((item : Item) (items : List Item) → read false (change item items) ≡ items_bytes (item ∷ items)) → (n : ℕ) (items : List Item) →
      read false (chunks_from n change items) ≡ items_bytes items
  from_old h n [] = refl
  from_old h zero (item ∷ items) = h item items
  from_old h (suc n) (item ∷ items) = ap (λ t. item_bytes item ++ t) (from_old h n items)

  from_new : (become : Tree → Tree) → ((item : Item) (items : List Item) → read true (change item items) ≡ items_bytes (record item { tree = become item.tree } ∷ items)) → (n : ℕ) (items : List Item) →
      read true (chunks_from n change items) ≡ items_bytes (with_tree_at n become items)
  from_new become h n [] = refl
  from_new become h zero (item ∷ items) = h item items
  from_new become h (suc n) (item ∷ items) = ap (λ t. item_bytes item ++ t) (from_new become h n items)

-- an entry that becomes another one
module _ (become : Entry → Entry) (chunked : Entry → List Chunk)
    (old : (e : Entry) → read false (chunked e) ≡ entry_bytes e) (new : (e : Entry) → read true (chunked e) ≡ entry_bytes (become e))
  where
    one_old : (n : ℕ) (items : List Item) → read false (chunks_from n (entry_as chunked) items) ≡ items_bytes items
    one_old n items = from_old (entry_as chunked) (λ item items. rest-read false (entry_body chunked item.tree) item items (tree_bytes item.tree) (body_old become chunked old new item.tree)) n items

    one_new : (n : ℕ) (items : List Item) → read true (chunks_from n (entry_as chunked) items) ≡ items_bytes (with_tree_at n (of_entry become) items)
    one_new n items = from_new (entry_as chunked) (of_entry become)
        (λ item items. rest-read true (entry_body chunked item.tree) item items (tree_bytes (of_entry become item.tree)) (body_new become chunked old new item.tree)) n items

-- the fields of an entry
module _ (field : Which) where
  module _ (value : Value) where
    one_set_old : (e : Entry) → read false (one_field_set field value e) ≡ entry_bytes e
    one_set_old e = entry-read false (Kept e.key) (later_rows_chunked field.name (number_of field) (field_set field.name value) e.space_after_key e.rows) e e.key e.space_after_key e.rows refl
        (later_old field.name (with_field field.name value) (field_set field.name value) (set_old field.name value) (number_of field) e.space_after_key e.rows)

    one_set_new : (e : Entry) → read true (one_field_set field value e) ≡ entry_bytes (entry_with_one_field field value e)
    one_set_new e =
        let rows = with_later_rows field.name (number_of field) (with_field field.name value) e.space_after_key e.rows in
        entry-read true (Kept e.key) (later_rows_chunked field.name (number_of field) (field_set field.name value) e.space_after_key e.rows) e e.key rows.0 rows.1 refl
        (later_new field.name (with_field field.name value) (field_set field.name value) (set_new field.name value) (number_of field) e.space_after_key e.rows)

  one_drop_old : (e : Entry) → read false (one_field_dropped field e) ≡ entry_bytes e
  one_drop_old e = entry-read false (Kept e.key) (later_rows_chunked field.name (number_of field) (field_dropped field.name) e.space_after_key e.rows) e e.key e.space_after_key e.rows refl
      (later_old field.name (without_field field.name) (field_dropped field.name) (drop_old field.name) (number_of field) e.space_after_key e.rows)

  one_drop_new : (e : Entry) → read true (one_field_dropped field e) ≡ entry_bytes (entry_without_one_field field e)
  one_drop_new e =
      let rows = with_later_rows field.name (number_of field) (without_field field.name) e.space_after_key e.rows in
      entry-read true (Kept e.key) (later_rows_chunked field.name (number_of field) (field_dropped field.name) e.space_after_key e.rows) e e.key rows.0 rows.1 refl
      (later_new field.name (without_field field.name) (field_dropped field.name) (drop_new field.name) (number_of field) e.space_after_key e.rows)

-- item n removed
out_regroup : (f t r : Text) → f ++ (t ++ r) ≡ (f ++ t) ++ r
out_regroup f t r = simp append_assoc

beside_regroup : (front body trail_now rest trail_was rest_was : Text) → trail_now ++ rest ≡ trail_was ++ rest_was → front ++ ((body ++ trail_was) ++ rest_was) ≡ front ++ ((body ++ trail_now) ++ rest)
beside_regroup front body trail_now rest trail_was rest_was e =
    ap (λ t. front ++ t) (append_assoc body trail_was rest_was ∙ ap (λ t. body ++ t) (sym e) ∙ sym (append_assoc body trail_now rest))

body_gone : (item : Item) (items : List Item) → read false (without_body item items) ≡ items_bytes (item ∷ items)
body_gone item items = rest-read false (Replaced (tree_bytes item.tree) [] ∷ []) item items (tree_bytes item.tree) (append-nil (tree_bytes item.tree))

out_new : (n : ℕ) (front : Text) (items : List Item) → front ++ read true (chunks_from n without_body items) ≡ bytes_of (without_item n front items)
out_new n front [] = refl
out_new zero front (item ∷ items) =
    ap (λ t. front ++ t) (rest-read true (Replaced (tree_bytes item.tree) [] ∷ []) item items [] refl) ∙ out_regroup front item.trail (items_bytes items)
out_new (suc n) front (item ∷ items) =
    let rest = without_item n item.trail items in
    beside_regroup front (tree_bytes item.tree) rest.front (items_bytes rest.items) item.trail (read true (chunks_from n without_body items)) (sym (out_new n item.trail items))

-- item n moved
its_old : (n : ℕ) (items : List Item) → read false (groups_without_item n items).0 ++ concat (map (read false) (groups_without_item n items).1) ≡ concat (map item_bytes items)
its_old n [] = refl
its_old zero (item ∷ items) = ap₂ (λ x y. (tree_bytes item.tree ++ x) ++ concat y) (append-nil item.trail) (singles false items)
its_old (suc n) (item ∷ items) =
    append_assoc (item_bytes item) (read false (groups_without_item n items).0) (concat (map (read false) (groups_without_item n items).1))
    ∙ ap (λ t. item_bytes item ++ t) (its_old n items)

its_front : (n : ℕ) (front : Text) (items : List Item) → (without_item n front items).front ≡ front ++ read true (groups_without_item n items).0
its_front n front [] = sym (append-nil front)
its_front zero front (item ∷ items) = sym (ap (λ t. front ++ t) (append-nil item.trail))
its_front (suc n) front (item ∷ items) = sym (append-nil front)

its_items : (n : ℕ) (front : Text) (items : List Item) → map (read true) (groups_without_item n items).1 ≡ map item_bytes (without_item n front items).items
its_items n front [] = refl
its_items zero front (item ∷ items) = singles true items
its_items (suc n) front (item ∷ items) =
    ap₂ ◌∷◌ (append_assoc (tree_bytes item.tree) item.trail (read true (groups_without_item n items).0) ∙ ap (λ t. tree_bytes item.tree ++ t) (sym (its_front n item.trail items))) (its_items n item.trail items)

module _ (n place : ℕ) (items : List Item) (item : Item) where
  abbrev left : List Chunk × List (List Chunk)
  left = groups_without_item n items

  abbrev put : List Chunk
  put = inserted (in_line item.tree)

  one_moved-read : (b : Bool) → read b (item_moved n place items item) ≡ read b left.0 ++ concat (insert (map (read b) left.1) place (read b put))
  one_moved-read b = read-append b left.0 (flat_map (λ chunks. chunks) (insert left.1 place put))
      ∙ ap (λ t. read b left.0 ++ t) (groups-read b (insert left.1 place put) ∙ ap concat (insert-map (read b) left.1 place put))

  one_moved_old : read false (item_moved n place items item) ≡ items_bytes items
  one_moved_old = one_moved-read false ∙ ap (λ t. read false left.0 ++ t) (insert-nothing (map (read false) left.1) place) ∙ its_old n items ∙ sym (items-concat items)

  one_moved_new : (front : Text) → front ++ read true (item_moved n place items item) ≡
      (without_item n front items).front ++ items_bytes (insert (without_item n front items).items place (in_line item.tree))
  one_moved_new front =
      ap (λ t. front ++ t) (one_moved-read true)
      ∙ sym (append_assoc front (read true left.0) (concat (insert (map (read true) left.1) place (read true put))))
      ∙ ap₂ ◌++◌ (sym (its_front n front items))
      (ap₂ (λ l t. concat (insert l place t)) (its_items n front items) (append-nil (item_bytes (in_line item.tree)))
      ∙ sym (ap concat (insert-map item_bytes (without_item n front items).items place (in_line item.tree)))
      ∙ sym (items-concat (insert (without_item n front items).items place (in_line item.tree))))

-- the value of definition n
module _ (value : Value) where
  abbrev one_definition : Item → List Item → List Chunk
  one_definition item items = body_and_rest (definition_chunks value item.tree) item items

  one_value_old : (n : ℕ) (items : List Item) → read false (chunks_from n one_definition items) ≡ items_bytes items
  one_value_old n items = from_old one_definition (λ item items. rest-read false (definition_chunks value item.tree) item items (tree_bytes item.tree) (definition_old [] value item.tree)) n items

  one_value_new : (n : ℕ) (items : List Item) → read true (chunks_from n one_definition items) ≡ items_bytes (with_tree_at n (definition_to value) items)
  one_value_new n items = from_new one_definition (definition_to value)
      (λ item items. rest-read true (definition_chunks value item.tree) item items (tree_bytes (definition_to value item.tree)) (definition_new [] value item.tree)) n items

module _ (key : Which) (db : Reading) where
  changed_old : (change : EntryChange) (n : ℕ) → read false (entry_chunked key change db n) ≡ items_bytes db.items
  changed_old (SetsField field value) n = one_old (entry_with_one_field field value) (one_field_set field value) (one_set_old field value) (one_set_new field value) n db.items
  changed_old (DropsField field) n = one_old (entry_without_one_field field) (one_field_dropped field) (one_drop_old field) (one_drop_new field) n db.items
  changed_old (RenamesFields from to) n = one_old (entry_renamed from to) (names_replaced from to) (renamed_old from to) (renamed_new from to) n db.items
  changed_old (SetsType kind_name) n = one_old (entry_with_type kind_name) (type_replaced kind_name) (type_old kind_name) (type_new kind_name) n db.items
  changed_old (RenamesKey to) n = keys_old (key_for (entry_meant key (entries_of db)) to) (entries_of db) 0 db.items
  changed_old Removes n = from_old without_body body_gone n db.items
  changed_old (Moves place) n = ⊎_elim
      (λ none. ap (λ o. read false (option_map_or (item_moved n place db.items) o (kept_items db.items))) none ∙ items-kept false db.items)
      (λ some. ap (λ o. read false (option_map_or (item_moved n place db.items) o (kept_items db.items))) some.1 ∙ one_moved_old n place db.items some.0)
      (option_cases (slice_get db.items n))

  changed_new : (change : EntryChange) (n : ℕ) → db.front ++ read true (entry_chunked key change db n) ≡ bytes_of (entry_changed key change n db)
  changed_new (SetsField field value) n = ap (λ t. db.front ++ t) (one_new (entry_with_one_field field value) (one_field_set field value) (one_set_old field value) (one_set_new field value) n db.items)
  changed_new (DropsField field) n = ap (λ t. db.front ++ t) (one_new (entry_without_one_field field) (one_field_dropped field) (one_drop_old field) (one_drop_new field) n db.items)
  changed_new (RenamesFields from to) n = ap (λ t. db.front ++ t) (one_new (entry_renamed from to) (names_replaced from to) (renamed_old from to) (renamed_new from to) n db.items)
  changed_new (SetsType kind_name) n = ap (λ t. db.front ++ t) (one_new (entry_with_type kind_name) (type_replaced kind_name) (type_old kind_name) (type_new kind_name) n db.items)
  changed_new (RenamesKey to) n = ap (λ t. db.front ++ t) (keys_new (key_for (entry_meant key (entries_of db)) to) (entries_of db) 0 db.items)
  changed_new Removes n = out_new n db.front db.items
  changed_new (Moves place) n = ⊎_elim
      (λ none. ap (λ o. db.front ++ read true (option_map_or (item_moved n place db.items) o (kept_items db.items))) none ∙ ap (λ t. db.front ++ t) (items-kept true db.items)
      ∙ sym (ap (λ o. bytes_of (option_map_or (λ item. with_item place (in_line item.tree) (without_item n db.front db.items)) o db)) none))
      (λ some. ap (λ o. db.front ++ read true (option_map_or (item_moved n place db.items) o (kept_items db.items))) some.1 ∙ one_moved_new n place db.items some.0 db.front
      ∙ sym (ap (λ o. bytes_of (option_map_or (λ item. with_item place (in_line item.tree) (without_item n db.front db.items)) o db)) some.1))
      (option_cases (slice_get db.items n))

  -- no entry is meant, or it is item n
  meant_old : (change : EntryChange) (o : Option ℕ) → read false (option_map_or (entry_chunked key change db) o (kept_items db.items)) ≡ items_bytes db.items
  meant_old change None = items-kept false db.items
  meant_old change (Some n) = changed_old change n

  meant_new : (change : EntryChange) (o : Option ℕ) →
      db.front ++ read true (option_map_or (entry_chunked key change db) o (kept_items db.items)) ≡ bytes_of (option_map_or (λ n. entry_changed key change n db) o db)
  meant_new change None = ap (λ t. db.front ++ t) (items-kept true db.items)
  meant_new change (Some n) = changed_new change n

module _ (db : Reading) where
  defined_old : (change : DefinitionChange) (o : Option ℕ) → read false (option_map_or (λ n. definition_chunked change n db.items) o (kept_items db.items)) ≡ items_bytes db.items
  defined_old change None = items-kept false db.items
  defined_old (SetsValue value) (Some n) = one_value_old value n db.items
  defined_old Undefines (Some n) = from_old without_body body_gone n db.items

  defined_new : (change : DefinitionChange) (o : Option ℕ) →
      db.front ++ read true (option_map_or (λ n. definition_chunked change n db.items) o (kept_items db.items)) ≡ bytes_of (option_map_or (λ n. definition_changed change n db) o db)
  defined_new change None = ap (λ t. db.front ++ t) (items-kept true db.items)
  defined_new (SetsValue value) (Some n) = ap (λ t. db.front ++ t) (one_value_new value n db.items)
  defined_new Undefines (Some n) = out_new n db.front db.items

-- ---- all edits

module _ (key_base : Record → Text) (db : Reading) where
  items_old : (e : Edit) → read false (changed_items key_base db e) ≡ items_bytes db.items
  items_old (SetField key name value) =
      entry_old (λ e. with_field name value e.space_after_key e.rows) (λ e. field_set name value e.space_after_key e.rows) (λ e. set_old name value e.space_after_key e.rows) (λ e. set_new name value e.space_after_key e.rows) key db.items
  items_old (DropField key name) =
      entry_old (λ e. without_field name e.space_after_key e.rows) (λ e. field_dropped name e.space_after_key e.rows) (λ e. drop_old name e.space_after_key e.rows) (λ e. drop_new name e.space_after_key e.rows) key db.items
  items_old (AddEntry place new) =
      added-read false (take place db.items) (drop place db.items) (inserted (item_of new))
      ∙ sym (items-append (take place db.items) (drop place db.items)) ∙ ap items_bytes (take-append-drop place db.items)
  items_old (RemoveEntry key) = first_old (is_entry key) without_body (removed_old (is_entry key)) db.items
  items_old (MoveEntry key place) = ⊎_elim
      (λ none. ap (λ o. read false (option_map_or (moved key place db.items) o (kept_items db.items))) none ∙ items-kept false db.items)
      (λ some. ap (λ o. read false (option_map_or (moved key place db.items) o (kept_items db.items))) some.1 ∙ moved_old key place db.items some.0)
      (option_cases (find (λ item. is_entry key item.tree) db.items))
  items_old (RenameKey from to) = keys_old (key_for (entry_named (entries_of db) from) to) (entries_of db) 0 db.items
  items_old (RenameMacro from to) =
      first_old (defines from) (λ item items. items_chunks (name_renamed from to) (use_renamed from to) (item ∷ items)) (λ item items. items-old (name_renamed from to) (use_renamed from to) (item ∷ items)) db.items
  items_old (InlineMacro name) = first_old (defines name) (uses_out name (text_of_macro name db)) (inlined_old name (text_of_macro name db)) db.items
  items_old (IntroduceMacro name text) =
      first_old (any_part (holds text)) (λ item items. inserted (in_line (DefinitionTree (definition_of name text))) ++ items_chunks leaving (part_introduced name text) (item ∷ items))
      (λ item items. items-old leaving (part_introduced name text) (item ∷ items)) db.items
  items_old (RegenerateKeys depth) = keys_old (slice_get (new_keys key_base depth (entries_of db))) (entries_of db) 0 db.items
  items_old (AddMany news) =
      read-append false (kept_items db.items) (appended news) ∙ ap₂ ◌++◌ (items-kept false db.items) (appended_old news) ∙ append-nil (items_bytes db.items)
  items_old (SetType key kind_name) = became_old (entry_with_type kind_name) (type_replaced kind_name) (type_old kind_name) (type_new kind_name) key db.items
  items_old (UndefineMacro name) = first_old (defines name) without_body (removed_old (defines name)) db.items
  items_old (RenameField from to None) = each_old (entry_renamed from to) (names_replaced from to) (renamed_old from to) (renamed_new from to) db.items
  items_old (RenameField from to (Some key)) = became_old (entry_renamed from to) (names_replaced from to) (renamed_old from to) (renamed_new from to) key db.items
  items_old (DefineMacro name value) = after_old (DefinitionTree (definition_as name value)) (definitions_end db.items) db.items
  items_old (SetMacro name value) = value_old name value db.items
  items_old (ChangeEntry key change) = meant_old key db change (item_meant key db.items)
  items_old (ChangeDefinition name k change) = defined_old db change (definition_meant name k db.items)

  file_new : (e : Edit) → db.front ++ read true (changed_items key_base db e) ≡ bytes_of (edited key_base db e)
  file_new (SetField key name value) = ap (λ t. db.front ++ t)
      (entry_new (λ e. with_field name value e.space_after_key e.rows) (λ e. field_set name value e.space_after_key e.rows) (λ e. set_old name value e.space_after_key e.rows) (λ e. set_new name value e.space_after_key e.rows) key db.items)
  file_new (DropField key name) = ap (λ t. db.front ++ t)
      (entry_new (λ e. without_field name e.space_after_key e.rows) (λ e. field_dropped name e.space_after_key e.rows) (λ e. drop_old name e.space_after_key e.rows) (λ e. drop_new name e.space_after_key e.rows) key db.items)
  file_new (AddEntry place new) = ap (λ t. db.front ++ t)
      (added-read true (take place db.items) (drop place db.items) (inserted (item_of new))
      ∙ ap (λ t. items_bytes (take place db.items) ++ (t ++ items_bytes (drop place db.items))) (append-nil (item_bytes (item_of new)))
      ∙ sym (items-append (take place db.items) (item_of new ∷ drop place db.items)))
  file_new (RemoveEntry key) = removed_new (is_entry key) db.front db.items
  file_new (MoveEntry key place) = ⊎_elim
      (λ none. ap (λ o. db.front ++ read true (option_map_or (moved key place db.items) o (kept_items db.items))) none ∙ ap (λ t. db.front ++ t) (items-kept true db.items)
      ∙ sym (ap (λ o. bytes_of (option_map_or (λ item. with_item place (in_line item.tree) (without_first (is_entry key) db.front db.items)) o db)) none))
      (λ some. ap (λ o. db.front ++ read true (option_map_or (moved key place db.items) o (kept_items db.items))) some.1 ∙ moved_new key place db.items some.0 db.front
      ∙ sym (ap (λ o. bytes_of (option_map_or (λ item. with_item place (in_line item.tree) (without_first (is_entry key) db.front db.items)) o db)) some.1))
      (option_cases (find (λ item. is_entry key item.tree) db.items))
  file_new (RenameKey from to) = ap (λ t. db.front ++ t) (keys_new (key_for (entry_named (entries_of db) from) to) (entries_of db) 0 db.items)
  file_new (RenameMacro from to) = ap (λ t. db.front ++ t)
      (first_new (defines from) (λ item items. items_chunks (name_renamed from to) (use_renamed from to) (item ∷ items)) (items_with (name_renamed from to) (use_renamed from to)) (λ item items. items-new (name_renamed from to) (use_renamed from to) (item ∷ items)) db.items)
  file_new (InlineMacro name) = inlined_new name (text_of_macro name db) db.front db.items
  file_new (IntroduceMacro name text) = ap (λ t. db.front ++ t)
      (first_new (any_part (holds text)) (λ item items. inserted (in_line (DefinitionTree (definition_of name text))) ++ items_chunks leaving (part_introduced name text) (item ∷ items)) (introduced name text)
      (λ item items. ap (λ t. item_bytes (in_line (DefinitionTree (definition_of name text))) ++ t) (items-new leaving (part_introduced name text) (item ∷ items))) db.items)
  file_new (RegenerateKeys depth) = ap (λ t. db.front ++ t) (keys_new (slice_get (new_keys key_base depth (entries_of db))) (entries_of db) 0 db.items)
  file_new (AddMany news) = ap (λ t. db.front ++ t)
      (read-append true (kept_items db.items) (appended news) ∙ ap₂ ◌++◌ (items-kept true db.items) (appended_new news) ∙ sym (items-append db.items (map item_of news)))
  file_new (SetType key kind_name) = ap (λ t. db.front ++ t) (became_new (entry_with_type kind_name) (type_replaced kind_name) (type_old kind_name) (type_new kind_name) key db.items)
  file_new (UndefineMacro name) = removed_new (defines name) db.front db.items
  file_new (RenameField from to None) = ap (λ t. db.front ++ t) (each_new (entry_renamed from to) (names_replaced from to) (renamed_old from to) (renamed_new from to) db.items)
  file_new (RenameField from to (Some key)) = ap (λ t. db.front ++ t) (became_new (entry_renamed from to) (names_replaced from to) (renamed_old from to) (renamed_new from to) key db.items)
  file_new (DefineMacro name value) = ap (λ t. db.front ++ t) (after_new (DefinitionTree (definition_as name value)) (definitions_end db.items) db.items)
  file_new (SetMacro name value) = ap (λ t. db.front ++ t) (value_new name value db.items)
  file_new (ChangeEntry key change) = meant_new key db change (item_meant key db.items)
  file_new (ChangeDefinition name k change) = defined_new db change (definition_meant name k db.items)

pub chunks-are-files : chunks_are_files
chunks-are-files key_base db e = (
  old-read (chunks key_base db e) ∙ ap (λ t. db.front ++ t) (items_old key_base db e),
  new-read (chunks key_base db e) ∙ file_new key_base db e,
)

pub pieces-lead : pieces_lead_to_edited
pieces-lead key_base db e =
    let files = chunks-are-files key_base db e in (
      subst (λ (t : Text). Fit (pieces_of key_base db e) t) files.0 (chunks-fit (chunks key_base db e)),
      ap (applied (pieces_of key_base db e)) (sym files.0) ∙ chunks-lead (chunks key_base db e) ∙ files.1,
    )
