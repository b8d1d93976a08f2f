-- Which bytes of the file each edit keeps, and which it replaces. (dialect)
use Rattle.std.specs.Prelude.{ℕ, zero, suc, Bool, List, [], ◌∷◌, ◌++◌, Option, Some, None, option_map, option_and_then, take, drop, insert, if◌then◌else◌, find, map, scan, slice_get}
use Rattle.std.specs.List.{flat_map}
use Rattle.std.specs.Option.{option_map_or}
use Rattle.bib_spec.specs.Bytes.{hash, comma, equals_sign, at_sign}
use Rattle.bib_spec.specs.Text.{Text, same}
use Rattle.bib_spec.specs.Tree.{Part, Link, Value, Assignment, Row, Entry, Tree, CommentTree, DefinitionTree, PreambleTree, EntryTree, part_bytes, value_bytes, row_bytes, open_byte, close_byte, head_bytes, opening_bytes, after_key_bytes, last_comma_bytes, tree_bytes}
use Rattle.bib_spec.specs.Reading.{Item, Reading, item_bytes}
use Rattle.bib_spec.specs.Texts.{row_start, bytes_before_value}
use Rattle.bib_spec.specs.Records.{EntryTexts, Record, entries_of, crossref, entry_named, target}
use Rattle.bib_spec.specs.Pieces.{Piece, Chunk, Kept, Replaced, pieces_of_chunks}
use Rattle.bib_spec.specs.MadeKeys.{new_keys}
use Rattle.part_spec.specs.Parts.{holds, any_part}
use Rattle.edit_spec.specs.Edits.{NewEntry, Edit, SetField, DropField, AddEntry, RemoveEntry, MoveEntry, RenameKey, RenameMacro, InlineMacro, IntroduceMacro, RegenerateKeys, AddMany, SetType, UndefineMacro, RenameField, DefineMacro, SetMacro, Which, EntryChange, SetsField, DropsField, RenamesFields, SetsType, RenamesKey, Removes, Moves, DefinitionChange, SetsValue, Undefines, ChangeEntry, ChangeDefinition, number_of, item_meant, entry_meant, definition_meant, leaving, defines, is_entry, new_row, line_end, item_of, in_line, in_braces, next_number, key_for, name_renamed, use_renamed, use_inlined, text_of_macro, definition_as, definition_of, part_introduced, definitions_end}

-- ---- trees

-- bytes that a change leaves or replaces; bytes that are given again count as replaced
abbrev pub token : Text → Option Text → Chunk
token old None = Kept old
token old (Some new) = Replaced old new

-- a part as one chunk, kept or replaced
abbrev pub part_token : (Part → Option Part) → Part → Chunk
part_token parts part = token (part_bytes part) (option_map part_bytes (parts part))

-- a link in chunks
abbrev pub link_chunks : (Part → Option Part) → Link → List Chunk
link_chunks parts l = Kept (l.space_before_hash ++ hash ∷ l.space_after_hash) ∷ part_token parts l.part ∷ []

-- a value in chunks
abbrev pub value_chunks : (Part → Option Part) → Value → List Chunk
value_chunks parts v = part_token parts v.first ∷ flat_map (link_chunks parts) v.links

-- an assignment in chunks
abbrev pub assignment_chunks : (Text → Option Text) → (Part → Option Part) → Assignment → List Chunk
assignment_chunks names parts a =
    token a.name (names a.name) ∷ Kept (a.space_before_equals ++ equals_sign ∷ a.space_before_value) ∷ (value_chunks parts a.value ++ Kept a.space_after ∷ [])

-- a row in chunks
abbrev pub row_chunks : (Part → Option Part) → Row → List Chunk
row_chunks parts row = Kept (comma ∷ row.space_before_name) ∷ assignment_chunks leaving parts row.assignment

-- the bytes of an entry after its rows
abbrev pub after_rows : Entry → Text
after_rows e = last_comma_bytes e.last_comma ++ close_byte e.opening.delimiter ∷ []

-- an entry in chunks, given the chunk of its key and the chunks from there to the end of the rows
abbrev pub entry_chunks : Chunk → List Chunk → Entry → List Chunk
entry_chunks key rows e = Kept (opening_bytes e.opening) ∷ key ∷ (rows ++ Kept (after_rows e) ∷ [])

-- a tree in chunks, where these changes replace the name that it defines and its parts
abbrev pub tree_chunks : (Text → Option Text) → (Part → Option Part) → Tree → List Chunk
tree_chunks names parts (CommentTree h) = Kept (head_bytes h) ∷ []
tree_chunks names parts (DefinitionTree d) =
    Kept (opening_bytes d.opening) ∷ (assignment_chunks names parts d.assignment ++ Kept (close_byte d.opening.delimiter ∷ []) ∷ [])
tree_chunks names parts (PreambleTree p) =
    Kept (opening_bytes p.opening) ∷ (value_chunks parts p.value ++ Kept (p.space_after ++ close_byte p.opening.delimiter ∷ []) ∷ [])
tree_chunks names parts (EntryTree e) = entry_chunks (Kept e.key) (Kept e.space_after_key ∷ flat_map (row_chunks parts) e.rows) e

-- an item in chunks
abbrev pub item_chunks : (Text → Option Text) → (Part → Option Part) → Item → List Chunk
item_chunks names parts item = tree_chunks names parts item.tree ++ Kept item.trail ∷ []

-- items in chunks, one after another
abbrev pub items_chunks : (Text → Option Text) → (Part → Option Part) → List Item → List Chunk
items_chunks names parts items = flat_map (item_chunks names parts) items

-- ---- items

-- an item that is kept, with its trail
abbrev pub kept_item : Item → Chunk
kept_item item = Kept (item_bytes item)

-- items that are kept
abbrev pub kept_items : List Item → List Chunk
kept_items items = map kept_item items

-- the chunks of an item's body, and then its trail and the items after it, kept
abbrev pub body_and_rest : List Chunk → Item → List Item → List Chunk
body_and_rest body item items = body ++ (Kept item.trail ∷ kept_items items)

-- the items in chunks: kept up to the first that passes the test, and from there on as this function gives them
abbrev pub chunks_from_first : (Tree → Bool) → (Item → List Item → List Chunk) → List Item → List Chunk
chunks_from_first test change [] = []
chunks_from_first test change (item ∷ items) =
    if test item.tree then change item items else kept_item item ∷ chunks_from_first test change items

-- the body of the item is removed, and all after it kept
abbrev pub without_body : Item → List Item → List Chunk
without_body item items = body_and_rest (Replaced (tree_bytes item.tree) [] ∷ []) item items

-- the body of an entry in the chunks that this function gives; other items are kept
abbrev pub entry_body : (Entry → List Chunk) → Tree → List Chunk
entry_body change (EntryTree e) = change e
entry_body change other = Kept (tree_bytes other) ∷ []

-- an entry in the chunks that this function gives, and all after it kept
abbrev pub entry_as : (Entry → List Chunk) → Item → List Item → List Chunk
entry_as change item items = body_and_rest (entry_body change item.tree) item items

-- ---- fields

-- the rows, kept
abbrev pub kept_rows : List Row → List Chunk
kept_rows rows = map (λ row. Kept (row_bytes row)) rows

-- the rows in chunks, where the first row of this name gets another value
abbrev pub value_replaced : Text → Value → List Row → List Chunk
value_replaced name value [] = []
value_replaced name value (row ∷ rows) =
    if same row.assignment.name name
    then Kept (row_start row) ∷ Replaced (value_bytes row.assignment.value) (value_bytes value) ∷ Kept row.assignment.space_after ∷ kept_rows rows
    else Kept (row_bytes row) ∷ value_replaced name value rows

-- the white space before the rows, and the rows: the first row of this name gets another value, or a new row is added
abbrev pub field_set : Text → Value → Text → List Row → List Chunk
field_set name value before [] = Replaced [] (row_start (new_row name value []) ++ value_bytes value) ∷ Kept before ∷ []
field_set name value before (row ∷ rows) =
    if same row.assignment.name name
    then Kept before ∷ Kept (row_start row) ∷ Replaced (value_bytes row.assignment.value) (value_bytes value) ∷ Kept row.assignment.space_after ∷ kept_rows rows
    else Kept before ∷ Kept (row_start row) ∷ Kept (value_bytes row.assignment.value) ∷ field_set name value row.assignment.space_after rows

-- the white space before the rows, and the rows: the first row of this name is removed up to its value's end
abbrev pub field_dropped : Text → Text → List Row → List Chunk
field_dropped name before [] = Kept before ∷ []
field_dropped name before (row ∷ rows) =
    if same row.assignment.name name
    then Kept before ∷ Replaced (row_start row ++ value_bytes row.assignment.value) [] ∷ Kept row.assignment.space_after ∷ kept_rows rows
    else Kept before ∷ Kept (row_start row) ∷ Kept (value_bytes row.assignment.value) ∷ field_dropped name row.assignment.space_after rows

-- ---- names of fields

-- the bytes of a row after its name
abbrev pub after_name : Row → Text
after_name row =
    let a : Assignment = row.assignment in
    (a.space_before_equals ++ equals_sign ∷ a.space_before_value) ++ (value_bytes a.value ++ a.space_after)

-- a row in chunks, where its name is replaced if it is `from`
abbrev pub row_name_chunks : Text → Text → Row → List Chunk
row_name_chunks from to row =
    Kept (comma ∷ row.space_before_name) ∷ token row.assignment.name (name_renamed from to row.assignment.name) ∷ Kept (after_name row) ∷ []

-- an entry in chunks, where each name `from` of a field is replaced
abbrev pub names_replaced : Text → Text → Entry → List Chunk
names_replaced from to e = entry_chunks (Kept e.key) (Kept e.space_after_key ∷ flat_map (row_name_chunks from to) e.rows) e

-- an item in chunks: an entry as this function gives it
abbrev pub each_entry_as : (Entry → List Chunk) → Item → List Chunk
each_entry_as change item = entry_body change item.tree ++ Kept item.trail ∷ []

-- ---- values of macros

-- a definition in chunks, where its value is replaced; other items are kept
abbrev pub definition_chunks : Value → Tree → List Chunk
definition_chunks value (DefinitionTree d) =
    Kept (opening_bytes d.opening ++ bytes_before_value d.assignment)
    ∷ Replaced (value_bytes d.assignment.value) (value_bytes value)
    ∷ Kept (d.assignment.space_after ++ close_byte d.opening.delimiter ∷ []) ∷ []
definition_chunks value other = Kept (tree_bytes other) ∷ []

-- ---- types

-- an entry in chunks, where its type is replaced
abbrev pub type_replaced : Text → Entry → List Chunk
type_replaced kind_name e =
    Kept (at_sign ∷ e.opening.head.space_before_type)
    ∷ Replaced e.opening.head.type_name kind_name
    ∷ Kept (e.opening.space_before_delimiter ++ open_byte e.opening.delimiter ∷ e.opening.space_after)
    ∷ Kept (e.key ++ after_key_bytes e) ∷ []

-- ---- keys

-- the rows in chunks, where the first crossref names the new key of its target, if the target gets a new key
abbrev pub crossref_chunks : Option Text → List Row → List Chunk
crossref_chunks None rows = kept_rows rows
crossref_chunks (Some key) rows = value_replaced crossref (in_braces key) rows

-- entry n in chunks, with its new key and its target's
abbrev pub tree_key_chunks : (ℕ → Option Text) → List EntryTexts → ℕ → Tree → List Chunk
tree_key_chunks new entries n (EntryTree e) =
    entry_chunks (token e.key (new n)) (Kept e.space_after_key ∷ crossref_chunks (option_and_then new (target entries n)) e.rows) e
tree_key_chunks new entries n other = Kept (tree_bytes other) ∷ []

-- an item in chunks, with the new keys, if the next entry has the number n
abbrev pub item_key_chunks : (ℕ → Option Text) → List EntryTexts → ℕ → Item → List Chunk
item_key_chunks new entries n item = tree_key_chunks new entries n item.tree ++ Kept item.trail ∷ []

-- items in chunks, with new keys, and with crossrefs that name the new keys of their targets
abbrev pub key_chunks : (ℕ → Option Text) → Reading → List Chunk
key_chunks new db =
    flat_map (λ chunks. chunks) (scan (λ n item. next_number n item.tree) (item_key_chunks new (entries_of db)) 0 db.items)

-- ---- a removal and an insertion

-- One list of chunks for each remaining item, where the body of the first item that passes the test is removed. The chunks
-- of the removed item join the list before it; if it was the first item, they are `.0`.
abbrev pub groups_without : (Tree → Bool) → List Item → List Chunk × List (List Chunk)
groups_without test [] = ([], [])
groups_without test (item ∷ items) =
    let rest = groups_without test items in
    if test item.tree
    then (Replaced (tree_bytes item.tree) [] ∷ Kept item.trail ∷ [], map (λ kept. kept_item kept ∷ []) items)
    else ([], (kept_item item ∷ rest.0) ∷ rest.1)

-- an item that is put in
abbrev pub inserted : Item → List Chunk
inserted item = Replaced [] (item_bytes item) ∷ []

-- the items in chunks, with this tree put in as `put_after` does
abbrev pub chunks_after : ℕ → Tree → List Item → List Chunk
chunks_after zero tree items = inserted (in_line tree) ++ kept_items items
chunks_after (suc n) tree [] = inserted (in_line tree)
chunks_after (suc zero) tree (item ∷ items) =
    Kept (tree_bytes item.tree) ∷ Replaced [] (line_end ++ tree_bytes tree) ∷ Kept item.trail ∷ kept_items items
chunks_after (suc (suc n)) tree (item ∷ items) = kept_item item ∷ chunks_after (suc n) tree items

-- the entry is taken out, and put in again at this position among the other items
abbrev pub moved : Text → ℕ → List Item → Item → List Chunk
moved key position items item =
    let groups = groups_without (is_entry key) items in
    groups.0 ++ flat_map (λ chunks. chunks) (insert groups.1 position (inserted (in_line item.tree)))

-- ---- one of several

-- the items in chunks: kept up to item n, and from there on as this function gives them
abbrev pub chunks_from : ℕ → (Item → List Item → List Chunk) → List Item → List Chunk
chunks_from n change [] = []
chunks_from zero change (item ∷ items) = change item items
chunks_from (suc n) change (item ∷ items) = kept_item item ∷ chunks_from n change items

-- The white space before the rows, and the rows: the first k rows of this name are kept, and the rows after them are as this
-- function gives them.
abbrev pub later_rows_chunked : Text → ℕ → (Text → List Row → List Chunk) → Text → List Row → List Chunk
later_rows_chunked name zero change before rows = change before rows
later_rows_chunked name (suc k) change before [] = Kept before ∷ []
later_rows_chunked name (suc k) change before (row ∷ rows) =
    Kept before ∷ Kept (row_start row) ∷ Kept (value_bytes row.assignment.value)
    ∷ later_rows_chunked name (if same row.assignment.name name then k else suc k) change row.assignment.space_after rows

-- an entry in chunks, where this field is set
abbrev pub one_field_set : Which → Value → Entry → List Chunk
one_field_set field value e =
    entry_chunks (Kept e.key) (later_rows_chunked field.name (number_of field) (field_set field.name value) e.space_after_key e.rows) e

-- an entry in chunks, where this field is removed
abbrev pub one_field_dropped : Which → Entry → List Chunk
one_field_dropped field e =
    entry_chunks (Kept e.key) (later_rows_chunked field.name (number_of field) (field_dropped field.name) e.space_after_key e.rows) e

-- One list of chunks for each remaining item, where the body of item n is removed. Its chunks join the list before it; if it was
-- the first item, they are `.0`.
abbrev pub groups_without_item : ℕ → List Item → List Chunk × List (List Chunk)
groups_without_item n [] = ([], [])
groups_without_item zero (item ∷ items) = (Replaced (tree_bytes item.tree) [] ∷ Kept item.trail ∷ [], map (λ kept. kept_item kept ∷ []) items)
groups_without_item (suc n) (item ∷ items) =
    let rest = groups_without_item n items in
    ([], (kept_item item ∷ rest.0) ∷ rest.1)

-- item n is taken out, and put in again at this position among the other items
abbrev pub item_moved : ℕ → ℕ → List Item → Item → List Chunk
item_moved n position items item =
    let groups = groups_without_item n items in
    groups.0 ++ flat_map (λ chunks. chunks) (insert groups.1 position (inserted (in_line item.tree)))

-- the items in chunks, where item n, which is the entry that is meant, is changed
abbrev pub entry_chunked : Which → EntryChange → Reading → ℕ → List Chunk
entry_chunked key (SetsField field value) db n = chunks_from n (entry_as (one_field_set field value)) db.items
entry_chunked key (DropsField field) db n = chunks_from n (entry_as (one_field_dropped field)) db.items
entry_chunked key (RenamesFields from to) db n = chunks_from n (entry_as (names_replaced from to)) db.items
entry_chunked key (SetsType kind_name) db n = chunks_from n (entry_as (type_replaced kind_name)) db.items
entry_chunked key (RenamesKey to) db n = key_chunks (key_for (entry_meant key (entries_of db)) to) db
entry_chunked key Removes db n = chunks_from n without_body db.items
entry_chunked key (Moves position) db n = option_map_or (item_moved n position db.items) (slice_get db.items n) (kept_items db.items)

-- the items in chunks, where item n, which is a definition, is changed
abbrev pub definition_chunked : DefinitionChange → ℕ → List Item → List Chunk
definition_chunked (SetsValue value) n items = chunks_from n (λ item items. body_and_rest (definition_chunks value item.tree) item items) items
definition_chunked Undefines n items = chunks_from n without_body items

-- ---- edits

-- the bytes that are put after the last item, if there are new entries
abbrev pub appended : List NewEntry → List Chunk
appended [] = []
appended (new ∷ news) = Replaced [] (flat_map item_bytes (map item_of (new ∷ news))) ∷ []

-- the items of the file in chunks, as the edit keeps and replaces them
abbrev pub changed_items : (Record → Text) → Reading → Edit → List Chunk
changed_items key_base db (SetField key name value) =
    chunks_from_first (is_entry key) (entry_as (λ e. entry_chunks (Kept e.key) (field_set name value e.space_after_key e.rows) e)) db.items
changed_items key_base db (DropField key name) =
    chunks_from_first (is_entry key) (entry_as (λ e. entry_chunks (Kept e.key) (field_dropped name e.space_after_key e.rows) e)) db.items
changed_items key_base db (AddEntry position new) = kept_items (take position db.items) ++ (inserted (item_of new) ++ kept_items (drop position db.items))
changed_items key_base db (RemoveEntry key) = chunks_from_first (is_entry key) without_body db.items
changed_items key_base db (MoveEntry key position) =
    option_map_or (moved key position db.items) (find (λ item. is_entry key item.tree) db.items) (kept_items db.items)
changed_items key_base db (RenameKey from to) = key_chunks (key_for (entry_named (entries_of db) from) to) db
changed_items key_base db (RenameMacro from to) =
    chunks_from_first (defines from) (λ item items. items_chunks (name_renamed from to) (use_renamed from to) (item ∷ items)) db.items
changed_items key_base db (InlineMacro name) =
    chunks_from_first (defines name) (λ item items. Replaced (tree_bytes item.tree) [] ∷ Kept item.trail ∷ items_chunks leaving (use_inlined name (text_of_macro name db)) items) db.items
changed_items key_base db (IntroduceMacro name text) =
    chunks_from_first (any_part (holds text))
    (λ item items. inserted (in_line (DefinitionTree (definition_of name text))) ++ items_chunks leaving (part_introduced name text) (item ∷ items)) db.items
changed_items key_base db (RegenerateKeys depth) = key_chunks (slice_get (new_keys key_base depth (entries_of db))) db
changed_items key_base db (AddMany news) = kept_items db.items ++ appended news
changed_items key_base db (SetType key kind_name) = chunks_from_first (is_entry key) (entry_as (type_replaced kind_name)) db.items
changed_items key_base db (UndefineMacro name) = chunks_from_first (defines name) without_body db.items
changed_items key_base db (RenameField from to None) = flat_map (each_entry_as (names_replaced from to)) db.items
changed_items key_base db (RenameField from to (Some key)) = chunks_from_first (is_entry key) (entry_as (names_replaced from to)) db.items
changed_items key_base db (DefineMacro name value) = chunks_after (definitions_end db.items) (DefinitionTree (definition_as name value)) db.items
changed_items key_base db (SetMacro name value) =
    chunks_from_first (defines name) (λ item items. body_and_rest (definition_chunks value item.tree) item items) db.items
changed_items key_base db (ChangeEntry key change) = option_map_or (entry_chunked key change db) (item_meant key db.items) (kept_items db.items)
changed_items key_base db (ChangeDefinition name k change) =
    option_map_or (λ n. definition_chunked change n db.items) (definition_meant name k db.items) (kept_items db.items)

-- the file in chunks, as the edit keeps and replaces them
abbrev pub chunks : (Record → Text) → Reading → Edit → List Chunk
chunks key_base db e = Kept db.front ∷ changed_items key_base db e

-- the pieces of the edit, with their places in the file
abbrev pub pieces_of : (Record → Text) → Reading → Edit → List Piece
pieces_of key_base db e = pieces_of_chunks (chunks key_base db e)
