-- What each edit makes of a database, and when it is refused.
use Rattle.std.specs.Prelude.{◌≡◌, ◌<◌, ◌≤◌, ◌⊎◌, ℕ, zero, suc, ◌-◌, Bool, true, false, not, ◌&&◌, ◌||◌, ◌==◌, nat_lt, nat_le, List, [], ◌∷◌, ◌++◌, Option, Some, None, is_some, is_none, unwrap_or, length, drop, insert, if◌then◌else◌, bytes_eq, codes, map, find, scan, count_by, option_map, option_and_then, slice_get, All}
use Rattle.std.specs.List.{flat_map, list_any, list_all}
use Rattle.std.specs.Option.{option_map_or}
use Rattle.bib_spec.specs.Bytes.{name_limit, file_limit, close_paren}
use Rattle.bib_spec.specs.Text.{Text, folded, same, is_name, is_new_key}
use Rattle.bib_spec.specs.Clean.{IsClean, IsCleanTrail}
use Rattle.bib_spec.specs.Tree.{Part, Braced, Quoted, Digits, Macro, Link, Value, Assignment, Row, Brace, Head, Definition, Entry, Tree, CommentTree, DefinitionTree, PreambleTree, EntryTree, is_comment, is_type, after_key_bytes, value_bytes, IsValue}
use Rattle.bib_spec.specs.Reading.{Item, Reading, bytes_of, IsValueWithin}
use Rattle.bib_spec.specs.Texts.{months, seen, too_long_at}
use Rattle.bib_spec.specs.Records.{EntryTexts, Record, entries_of, keys_of, crossref, has_name, is_named, entry_named, target, parent, dangling_texts}
use Rattle.bib_spec.specs.MadeKeys.{new_keys}
use Rattle.part_spec.specs.Parts.{uses, holds, any_part, have_part}

-- ---- edits

-- an entry to be added: its type, its key, and its fields with their values
pub record NewEntry : Type 0 where
  pub kind_name : Text
  pub key : Text
  pub fields : List (Text × Value)

-- Which is meant of those that have the same name, folded: the one with this number among them, from 0, in file order. If there
-- is no number, there must be only one.
pub record Which : Type 0 where
  pub name : Text
  pub number : Option ℕ

-- what an edit makes of one entry among several that have its key
pub data EntryChange : Type 0 where
  -- this field gets this value
  SetsField : Which → Value → EntryChange
  -- this field is removed
  DropsField : Which → EntryChange
  -- each field of the first name gets the second name
  RenamesFields : Text → Text → EntryChange
  -- the entry gets this type
  SetsType : Text → EntryChange
  -- the entry gets this key, and each crossref that names the entry names it by the new key
  RenamesKey : Text → EntryChange
  -- the entry is removed
  Removes : EntryChange
  -- the entry is taken out, and put in again before this item of the others
  Moves : ℕ → EntryChange

-- what an edit makes of one definition among several of the same macro
pub data DefinitionChange : Type 0 where
  -- the definition gets this value
  SetsValue : Value → DefinitionChange
  -- the definition is removed, which nothing uses
  Undefines : DefinitionChange

-- What a caller may request. A key in an edit names the first entry that has the key, folded.
pub data Edit : Type 0 where
  -- the field of this entry gets this value: key, field, value
  SetField : Text → Text → Value → Edit
  -- the field of this entry is removed: key, field
  DropField : Text → Text → Edit
  -- the entry is added before the item at this position
  AddEntry : ℕ → NewEntry → Edit
  -- the entry is removed
  RemoveEntry : Text → Edit
  -- the entry is taken out, and put in again before this item of the others
  MoveEntry : Text → ℕ → Edit
  -- the entry gets another key, and each crossref that names the entry names it by the new key: old key, new key
  RenameKey : Text → Text → Edit
  -- the macro gets another name, in its definition and in each use: old name, new name
  RenameMacro : Text → Text → Edit
  -- each use of the macro becomes the macro's text, and its definition is removed
  InlineMacro : Text → Edit
  -- each part that is the text becomes a use of a new macro for that text: name, text
  IntroduceMacro : Text → Text → Edit
  -- all entries get made keys, from their records at this depth
  RegenerateKeys : ℕ → Edit
  -- the entries are added after the last item, in this order
  AddMany : List NewEntry → Edit
  -- the entry gets this type: key, type
  SetType : Text → Text → Edit
  -- the definition of the macro is removed, which nothing uses
  UndefineMacro : Text → Edit
  -- each field of the first name gets the second name, in the entry that the key names, or in every entry
  RenameField : Text → Text → Option Text → Edit
  -- a macro that has no definition gets one: name, value
  DefineMacro : Text → Value → Edit
  -- the definition of the macro gets this value: name, value
  SetMacro : Text → Value → Edit
  -- this one of the entries with the same key is changed
  ChangeEntry : Which → EntryChange → Edit
  -- of the macro's definitions, the one with this number, from 0, is changed
  ChangeDefinition : Text → ℕ → DefinitionChange → Edit

-- The value has these bytes, and it is one of the grammar if any value with these bytes is. A caller gives bytes, and
-- whether they are a value is decided together with all other reasons to refuse.
pub record Spells (t : Text) (v : Value) : Type 0 where
  pub bytes : value_bytes v ≡ t
  pub value : IsValueWithin name_limit t → IsValue name_limit v

-- ---- changes of names and parts

-- what a change makes of a thing: if the change gives nothing new, the thing is unchanged
abbrev pub changed : {X : Type 0} → (X → Option X) → X → X
changed change x = unwrap_or (change x) x

-- a link with its part changed
abbrev pub link_with : (Part → Option Part) → Link → Link
link_with parts l = record l { part = changed parts l.part }

-- a value with its parts changed
abbrev pub value_with : (Part → Option Part) → Value → Value
value_with parts v = record v { first = changed parts v.first; links = map (link_with parts) v.links }

-- an assignment with the parts of its value changed
abbrev pub assignment_with : (Part → Option Part) → Assignment → Assignment
assignment_with parts a = record a { value = value_with parts a.value }

-- a row with the parts of its value changed
abbrev pub row_with : (Part → Option Part) → Row → Row
row_with parts row = record row { assignment = assignment_with parts row.assignment }

-- a tree with these changes of the name that it defines and of its parts
abbrev pub tree_with : (Text → Option Text) → (Part → Option Part) → Tree → Tree
tree_with names parts (CommentTree h) = CommentTree h
tree_with names parts (DefinitionTree d) =
    let a : Assignment = assignment_with parts d.assignment in
    DefinitionTree (record d { assignment = record a { name = changed names a.name } })
tree_with names parts (PreambleTree p) = PreambleTree (record p { value = value_with parts p.value })
tree_with names parts (EntryTree e) = EntryTree (record e { rows = map (row_with parts) e.rows })

-- an item with these changes of its tree
abbrev pub item_with : (Text → Option Text) → (Part → Option Part) → Item → Item
item_with names parts item = record item { tree = tree_with names parts item.tree }

-- the items, each with these changes
abbrev pub items_with : (Text → Option Text) → (Part → Option Part) → List Item → List Item
items_with names parts items = map (item_with names parts) items

-- a change that leaves everything
abbrev pub leaving : {X : Type 0} → X → Option X
leaving x = None

-- ---- what items hold

-- the item defines the macro
abbrev pub defines : Text → Tree → Bool
defines name (DefinitionTree d) = same d.assignment.name name
defines name (CommentTree h) = false
defines name (PreambleTree p) = false
defines name (EntryTree e) = false

-- the name is a month's, or defined or used anywhere
abbrev pub is_in_use : Text → List Item → Bool
is_in_use name items =
    is_some (months (folded name)) || list_any (λ item. defines name item.tree || any_part (uses name) item.tree) items

-- A use after the first definition of the name sees that definition, or a later one. Its own value does not see it, and no
-- use before it does.
abbrev pub is_seen : Text → List Item → Bool
is_seen name [] = false
is_seen name (item ∷ items) = if defines name item.tree then have_part (uses name) items else is_seen name items

-- the item is an entry that the key names
abbrev pub is_entry : Text → Tree → Bool
is_entry key (EntryTree e) = is_named key e.key
is_entry key (CommentTree h) = false
is_entry key (DefinitionTree d) = false
is_entry key (PreambleTree p) = false

-- ---- the first item that passes a test

-- the items, changed from the first that passes the test on
abbrev pub from_first : (Tree → Bool) → (List Item → List Item) → List Item → List Item
from_first test change [] = []
from_first test change (item ∷ items) = if test item.tree then change (item ∷ items) else item ∷ from_first test change items

-- the items, with the tree of the first one changed
abbrev pub with_first_tree : (Tree → Tree) → List Item → List Item
with_first_tree change [] = []
with_first_tree change (item ∷ items) = record item { tree = change item.tree } ∷ items

-- the front and the items without the first item that passes the test: its body is removed, and its trail joins the text
-- before it
abbrev pub without_first : (Tree → Bool) → Text → List Item → Reading
without_first test front [] = record { front = front; items = [] }
without_first test front (item ∷ items) =
    let rest = without_first test item.trail items in
    if test item.tree
    then record { front = front ++ item.trail; items = items }
    else record { front = front; items = record item { trail = rest.front } ∷ rest.items }

-- ---- fields

-- a row as an edit writes it: in a line of its own, with this white space after it
abbrev pub new_row : Text → Value → Text → Row
new_row name value after = record {
  space_before_name = codes "\n  ";
  assignment = record { name = name; space_before_equals = codes " "; space_before_value = codes " "; value = value; space_after = after };
}

-- a row with this white space after it
abbrev pub row_before : Text → Row → Row
row_before space row = record row { assignment = record row.assignment { space_after = space } }

-- a row with another value
abbrev pub row_to : Value → Row → Row
row_to value row = record row { assignment = record row.assignment { value = value } }

-- The white space before the rows, and the rows, after the field is set: the first row of this name has the value; if there
-- is none, a new row is put directly after the last value, or after the key.
abbrev pub with_field : Text → Value → Text → List Row → Text × List Row
with_field name value before [] = ([], new_row name value before ∷ [])
with_field name value before (row ∷ rows) =
    let rest = with_field name value row.assignment.space_after rows in
    if same row.assignment.name name then (before, row_to value row ∷ rows) else (before, row_before rest.0 row ∷ rest.1)

-- The white space before the rows, and the rows without the first row of this name: the row is removed from its comma to the
-- end of its value, and the white space after it joins the white space before it.
abbrev pub without_field : Text → Text → List Row → Text × List Row
without_field name before [] = (before, [])
without_field name before (row ∷ rows) =
    let rest = without_field name row.assignment.space_after rows in
    if same row.assignment.name name then (before ++ row.assignment.space_after, rows) else (before, row_before rest.0 row ∷ rest.1)

-- an entry with this white space before its rows, and these rows
abbrev pub entry_with_rows : Text × List Row → Entry → Entry
entry_with_rows rows e = record e { space_after_key = rows.0; rows = rows.1 }

-- an entry with the field set
abbrev pub entry_with_field : Text → Value → Entry → Entry
entry_with_field name value e = entry_with_rows (with_field name value e.space_after_key e.rows) e

-- an entry without the field
abbrev pub entry_without_field : Text → Entry → Entry
entry_without_field name e = entry_with_rows (without_field name e.space_after_key e.rows) e

-- a change of entries, as a change of trees that leaves other items alone
abbrev pub of_entry : (Entry → Entry) → Tree → Tree
of_entry change (EntryTree e) = EntryTree (change e)
of_entry change (CommentTree h) = CommentTree h
of_entry change (DefinitionTree d) = DefinitionTree d
of_entry change (PreambleTree p) = PreambleTree p

-- the entry that the key names, changed
abbrev pub with_entry : Text → (Entry → Entry) → Reading → Reading
with_entry key change db = record db { items = from_first (is_entry key) (with_first_tree (of_entry change)) db.items }

-- the field of this entry has this value
abbrev pub set_field : Text → Text → Value → Reading → Reading
set_field key name value db = with_entry key (entry_with_field name value) db

-- this entry has no such field
abbrev pub drop_field : Text → Text → Reading → Reading
drop_field key name db = with_entry key (entry_without_field name) db

-- ---- names of fields

-- the change of a name: `from` becomes `to`
abbrev pub name_renamed : Text → Text → Text → Option Text
name_renamed from to name = if same name from then Some to else None

-- a row whose field has its new name
abbrev pub row_renamed : Text → Text → Row → Row
row_renamed from to row = record row { assignment = record row.assignment { name = changed (name_renamed from to) row.assignment.name } }

-- an entry whose fields have their new names
abbrev pub entry_renamed : Text → Text → Entry → Entry
entry_renamed from to e = record e { rows = map (row_renamed from to) e.rows }

-- the item, changed if it is an entry
abbrev pub item_changed : (Entry → Entry) → Item → Item
item_changed change item = record item { tree = of_entry change item.tree }

-- every entry, changed
abbrev pub with_entries : (Entry → Entry) → Reading → Reading
with_entries change db = record db { items = map (item_changed change) db.items }

-- the fields have their new name, in the entry that the key names, or in every entry
abbrev pub rename_field : Text → Text → Option Text → Reading → Reading
rename_field from to None db = with_entries (entry_renamed from to) db
rename_field from to (Some key) db = with_entry key (entry_renamed from to) db

-- ---- types

-- an entry with another type
abbrev pub entry_with_type : Text → Entry → Entry
entry_with_type kind_name e =
    let head : Head = record e.opening.head { type_name = kind_name } in
    record e { opening = record e.opening { head = head } }

-- the entry that the key names has this type
abbrev pub set_type : Text → Text → Reading → Reading
set_type key kind_name db = with_entry key (entry_with_type kind_name) db

-- ---- entries

-- the end of a line
abbrev pub line_end : Text
line_end = codes "\n"

-- the rows of a new entry: the last is followed by a line's end, before the closing brace
abbrev pub new_rows : List (Text × Value) → List Row
new_rows [] = []
new_rows (field ∷ []) = new_row field.0 field.1 line_end ∷ []
new_rows (field ∷ next ∷ fields) = new_row field.0 field.1 [] ∷ new_rows (next ∷ fields)

-- a new entry as it is written: `@type{key,`, each field in a line of its own, and `}` in a line of its own if there are fields
abbrev pub entry_of : NewEntry → Entry
entry_of new = record {
  opening = record {
    head = record { space_before_type = []; type_name = new.kind_name };
    space_before_delimiter = [];
    delimiter = Brace;
    space_after = [];
  };
  key = new.key;
  space_after_key = [];
  rows = new_rows new.fields;
  last_comma = None;
}

-- a tree in a line of its own
abbrev pub in_line : Tree → Item
in_line tree = record { tree = tree; trail = line_end }

-- a new entry as an item
abbrev pub item_of : NewEntry → Item
item_of new = in_line (EntryTree (entry_of new))

-- the item put in at this position
abbrev pub with_item : ℕ → Item → Reading → Reading
with_item position item db = record db { items = insert db.items position item }

-- the new entry at this position
abbrev pub add_entry : ℕ → NewEntry → Reading → Reading
add_entry position new db = with_item position (item_of new) db

-- the new entries after the last item
abbrev pub add_many : List NewEntry → Reading → Reading
add_many news db = record db { items = db.items ++ map item_of news }

-- without the entry that the key names
abbrev pub remove_entry : Text → Reading → Reading
remove_entry key db = without_first (is_entry key) db.front db.items

-- the entry that the key names is taken out, and put in again at this position of the others
abbrev pub move_entry : Text → ℕ → Reading → Reading
move_entry key position db =
    option_map_or (λ item. with_item position (in_line item.tree) (remove_entry key db)) (find (λ item. is_entry key item.tree) db.items) db

-- ---- keys

-- a value that is one part in braces
abbrev pub in_braces : Text → Value
in_braces t = record { first = Braced t; links = [] }

-- the first row of this name with another value
abbrev pub with_value : Text → Value → List Row → List Row
with_value name value [] = []
with_value name value (row ∷ rows) = if same row.assignment.name name then row_to value row ∷ rows else row ∷ with_value name value rows

-- the rows, with the first crossref naming its target by the new key, if the target gets one
abbrev pub with_crossref : Option Text → List Row → List Row
with_crossref None rows = rows
with_crossref (Some key) rows = with_value crossref (in_braces key) rows

-- the number of the next entry after this item, if the item's own number as an entry would be n
abbrev pub next_number : ℕ → Tree → ℕ
next_number n (EntryTree e) = suc n
next_number n (CommentTree h) = n
next_number n (DefinitionTree d) = n
next_number n (PreambleTree p) = n

-- entry n with its new key, if it gets one, and with a crossref that names the new key of its target, if the target gets one
abbrev pub tree_with_keys : (ℕ → Option Text) → List EntryTexts → ℕ → Tree → Tree
tree_with_keys new entries n (EntryTree e) =
    EntryTree (record e { key = unwrap_or (new n) e.key; rows = with_crossref (option_and_then new (target entries n)) e.rows })
tree_with_keys new entries n (CommentTree h) = CommentTree h
tree_with_keys new entries n (DefinitionTree d) = DefinitionTree d
tree_with_keys new entries n (PreambleTree p) = PreambleTree p

-- an item with its new key and crossref, if the next entry has the number n
abbrev pub item_with_keys : (ℕ → Option Text) → List EntryTexts → ℕ → Item → Item
item_with_keys new entries n item = record item { tree = tree_with_keys new entries n item.tree }

-- the items with their new keys, if the first entry among them has the number n
abbrev pub items_with_keys : (ℕ → Option Text) → List EntryTexts → ℕ → List Item → List Item
items_with_keys new entries n items = scan (λ n item. next_number n item.tree) (item_with_keys new entries) n items

-- all entries with their new keys, given at once: entry n gets the key `new n`, if that is not `None`
abbrev pub with_keys : (ℕ → Option Text) → Reading → Reading
with_keys new db = record db { items = items_with_keys new (entries_of db) 0 db.items }

-- the new keys, if only one entry gets a new key
abbrev pub key_for : Option ℕ → Text → ℕ → Option Text
key_for None to n = None
key_for (Some m) to n = if m == n then Some to else None

-- the entry that the key `from` names has the key `to`
abbrev pub rename_key : Text → Text → Reading → Reading
rename_key from to db = with_keys (key_for (entry_named (entries_of db) from) to) db

-- every entry has its made key
abbrev pub regenerate_keys : (Record → Text) → ℕ → Reading → Reading
regenerate_keys key_base depth db = with_keys (slice_get (new_keys key_base depth (entries_of db))) db

-- ---- macros

-- the change of a part: a use of `from` becomes a use of `to`
abbrev pub use_renamed : Text → Text → Part → Option Part
use_renamed from to (Macro name) = if same name from then Some (Macro to) else None
use_renamed from to (Braced t) = None
use_renamed from to (Quoted t) = None
use_renamed from to (Digits t) = None

-- the macro has its new name from its definition on: a use before the definition means a month, or nothing
abbrev pub rename_macro : Text → Text → Reading → Reading
rename_macro from to db = record db { items = from_first (defines from) (items_with (name_renamed from to) (use_renamed from to)) db.items }

-- the change of a part: a use of the macro becomes the text in braces
abbrev pub use_inlined : Text → Text → Part → Option Part
use_inlined name text (Macro used) = if same used name then Some (Braced text) else None
use_inlined name text (Braced t) = None
use_inlined name text (Quoted t) = None
use_inlined name text (Digits t) = None

-- the items, with each use of the macro after the first item replaced by the text in braces
abbrev pub uses_inlined : Text → Text → List Item → List Item
uses_inlined name text [] = []
uses_inlined name text (item ∷ items) = item ∷ items_with leaving (use_inlined name text) items

-- what the macro stands for at the end of the file, or nothing
abbrev pub text_of_macro : Text → Reading → Text
text_of_macro name db = unwrap_or (seen db (length db.items) name) []

-- the uses after the definition are replaced, and the definition is removed
abbrev pub inline_macro : Text → Reading → Reading
inline_macro name db =
    without_first (defines name) db.front (from_first (defines name) (uses_inlined name (text_of_macro name db)) db.items)

-- the definition is removed
abbrev pub undefine_macro : Text → Reading → Reading
undefine_macro name db = without_first (defines name) db.front db.items

-- `@string{name = value}`
abbrev pub definition_as : Text → Value → Definition
definition_as name value = record {
  opening = record {
    head = record { space_before_type = []; type_name = codes "string" };
    space_before_delimiter = [];
    delimiter = Brace;
    space_after = [];
  };
  assignment = record { name = name; space_before_equals = codes " "; space_before_value = codes " "; value = value; space_after = [] };
}

-- `@string{name = {text}}`
abbrev pub definition_of : Text → Text → Definition
definition_of name text = definition_as name (in_braces text)

-- the change of a part: a part that is the text becomes a use of the macro
abbrev pub part_introduced : Text → Text → Part → Option Part
part_introduced name text part = if holds text part then Some (Macro name) else None

-- a definition of the text, and after it the items, with each part that is the text made a use
abbrev pub introduced : Text → Text → List Item → List Item
introduced name text items = in_line (DefinitionTree (definition_of name text)) ∷ items_with leaving (part_introduced name text) items

-- the definition is put before the first item that has such a part
abbrev pub introduce_macro : Text → Text → Reading → Reading
introduce_macro name text db = record db { items = from_first (any_part (holds text)) (introduced name text) db.items }

-- how many items there are up to the last definition before the first entry, given how many there are of the items after this one
abbrev pub definitions_end_with : Tree → ℕ → ℕ
definitions_end_with (EntryTree e) n = 0
definitions_end_with (DefinitionTree d) n = suc n
definitions_end_with other zero = 0
definitions_end_with other (suc n) = suc (suc n)

-- how many items there are up to the last definition before the first entry; 0 if there is no such definition
abbrev pub definitions_end : List Item → ℕ
definitions_end [] = 0
definitions_end (item ∷ items) = definitions_end_with item.tree (definitions_end items)

-- The items with this tree put in, in a line of its own. If n is 0, the tree comes before the first item; else directly after
-- the body of the last of the first n items, and the text that was there now follows the tree.
abbrev pub put_after : ℕ → Tree → List Item → List Item
put_after zero tree items = in_line tree ∷ items
put_after (suc n) tree [] = in_line tree ∷ []
put_after (suc zero) tree (item ∷ items) = in_line item.tree ∷ record { tree = tree; trail = item.trail } ∷ items
put_after (suc (suc n)) tree (item ∷ items) = item ∷ put_after (suc n) tree items

-- the definition is put after the last definition before the first entry, or else before the first item
abbrev pub define_macro : Text → Value → Reading → Reading
define_macro name value db =
    record db { items = put_after (definitions_end db.items) (DefinitionTree (definition_as name value)) db.items }

-- a definition with another value
abbrev pub definition_to : Value → Tree → Tree
definition_to value (DefinitionTree d) = DefinitionTree (record d { assignment = record d.assignment { value = value } })
definition_to value (CommentTree h) = CommentTree h
definition_to value (PreambleTree p) = PreambleTree p
definition_to value (EntryTree e) = EntryTree e

-- the first definition of the macro has this value
abbrev pub set_macro : Text → Value → Reading → Reading
set_macro name value db = record db { items = from_first (defines name) (with_first_tree (definition_to value)) db.items }

-- ---- one of several

-- the number of the member that has the number k among those that pass the test; both count from 0
abbrev pub nth_of : {X : Type 0} → (X → Bool) → ℕ → List X → Option ℕ
nth_of test k [] = None
nth_of test zero (x ∷ xs) = if test x then Some 0 else option_map suc (nth_of test zero xs)
nth_of test (suc k) (x ∷ xs) = option_map suc (nth_of test (if test x then k else suc k) xs)

-- the number among those that have the name
abbrev pub number_of : Which → ℕ
number_of which = unwrap_or which.number 0

-- the number, among the items, of the entry that is meant
abbrev pub item_meant : Which → List Item → Option ℕ
item_meant key items = nth_of (λ item. is_entry key.name item.tree) (number_of key) items

-- the number, among the entries, of the entry that is meant
abbrev pub entry_meant : Which → List EntryTexts → Option ℕ
entry_meant key entries = nth_of (is_named key.name) (number_of key) (keys_of entries)

-- the number, among the items, of the definition that is meant
abbrev pub definition_meant : Text → ℕ → List Item → Option ℕ
definition_meant name k items = nth_of (λ item. defines name item.tree) k items

-- the items, with the tree of item n changed
abbrev pub with_tree_at : ℕ → (Tree → Tree) → List Item → List Item
with_tree_at n change [] = []
with_tree_at zero change (item ∷ items) = record item { tree = change item.tree } ∷ items
with_tree_at (suc n) change (item ∷ items) = item ∷ with_tree_at n change items

-- the front and the items without item n: its body is removed, and its trail joins the text before it
abbrev pub without_item : ℕ → Text → List Item → Reading
without_item n front [] = record { front = front; items = [] }
without_item zero front (item ∷ items) = record { front = front ++ item.trail; items = items }
without_item (suc n) front (item ∷ items) =
    let rest = without_item n item.trail items in
    record { front = front; items = record item { trail = rest.front } ∷ rest.items }

-- The white space before the rows, and the rows, with a change of the rows after the first k rows of this name.
abbrev pub with_later_rows : Text → ℕ → (Text → List Row → Text × List Row) → Text → List Row → Text × List Row
with_later_rows name zero change before rows = change before rows
with_later_rows name (suc k) change before [] = (before, [])
with_later_rows name (suc k) change before (row ∷ rows) =
    let rest = with_later_rows name (if same row.assignment.name name then k else suc k) change row.assignment.space_after rows in
    (before, row_before rest.0 row ∷ rest.1)

-- an entry with this field set
abbrev pub entry_with_one_field : Which → Value → Entry → Entry
entry_with_one_field field value e =
    entry_with_rows (with_later_rows field.name (number_of field) (with_field field.name value) e.space_after_key e.rows) e

-- an entry without this field
abbrev pub entry_without_one_field : Which → Entry → Entry
entry_without_one_field field e =
    entry_with_rows (with_later_rows field.name (number_of field) (without_field field.name) e.space_after_key e.rows) e

-- item n, which is an entry, changed
abbrev pub with_entry_at : ℕ → (Entry → Entry) → Reading → Reading
with_entry_at n change db = record db { items = with_tree_at n (of_entry change) db.items }

-- item n is taken out, and put in again at this position of the others
abbrev pub move_item : ℕ → ℕ → Reading → Reading
move_item n position db =
    option_map_or (λ item. with_item position (in_line item.tree) (without_item n db.front db.items)) (slice_get db.items n) db

-- item n, which is the entry that is meant, changed
abbrev pub entry_changed : Which → EntryChange → ℕ → Reading → Reading
entry_changed key (SetsField field value) n db = with_entry_at n (entry_with_one_field field value) db
entry_changed key (DropsField field) n db = with_entry_at n (entry_without_one_field field) db
entry_changed key (RenamesFields from to) n db = with_entry_at n (entry_renamed from to) db
entry_changed key (SetsType kind_name) n db = with_entry_at n (entry_with_type kind_name) db
entry_changed key (RenamesKey to) n db = with_keys (key_for (entry_meant key (entries_of db)) to) db
entry_changed key Removes n db = without_item n db.front db.items
entry_changed key (Moves position) n db = move_item n position db

-- the entry that is meant, changed
abbrev pub change_entry : Which → EntryChange → Reading → Reading
change_entry key change db = option_map_or (λ n. entry_changed key change n db) (item_meant key db.items) db

-- item n, which is a definition, changed
abbrev pub definition_changed : DefinitionChange → ℕ → Reading → Reading
definition_changed (SetsValue value) n db = record db { items = with_tree_at n (definition_to value) db.items }
definition_changed Undefines n db = without_item n db.front db.items

-- the definition that is meant, changed
abbrev pub change_definition : Text → ℕ → DefinitionChange → Reading → Reading
change_definition name k change db = option_map_or (λ n. definition_changed change n db) (definition_meant name k db.items) db

-- ---- what an edit makes

-- the database after an edit; a made key begins with what `key_base` makes of the record
abbrev pub edited : (Record → Text) → Reading → Edit → Reading
edited key_base db (SetField key name value) = set_field key name value db
edited key_base db (DropField key name) = drop_field key name db
edited key_base db (AddEntry position new) = add_entry position new db
edited key_base db (RemoveEntry key) = remove_entry key db
edited key_base db (MoveEntry key position) = move_entry key position db
edited key_base db (RenameKey from to) = rename_key from to db
edited key_base db (RenameMacro from to) = rename_macro from to db
edited key_base db (InlineMacro name) = inline_macro name db
edited key_base db (IntroduceMacro name text) = introduce_macro name text db
edited key_base db (RegenerateKeys depth) = regenerate_keys key_base depth db
edited key_base db (AddMany news) = add_many news db
edited key_base db (SetType key kind_name) = set_type key kind_name db
edited key_base db (UndefineMacro name) = undefine_macro name db
edited key_base db (RenameField from to key) = rename_field from to key db
edited key_base db (DefineMacro name value) = define_macro name value db
edited key_base db (SetMacro name value) = set_macro name value db
edited key_base db (ChangeEntry key change) = change_entry key change db
edited key_base db (ChangeDefinition name k change) = change_definition name k change db

-- ---- what an edit is given

-- the new keys that the edit gives
abbrev pub given_keys : Edit → List Text
given_keys (AddEntry position new) = new.key ∷ []
given_keys (AddMany news) = map (λ new. new.key) news
given_keys (RenameKey from to) = to ∷ []
given_keys (ChangeEntry key (RenamesKey to)) = to ∷ []
given_keys other = []

-- the names of a new entry's fields
abbrev pub field_names : NewEntry → List Text
field_names new = map (λ field. field.0) new.fields

-- the values of a new entry's fields
abbrev pub field_values : NewEntry → List Value
field_values new = map (λ field. field.1) new.fields

-- the names of fields and macros in the edit, new ones or not
abbrev pub given_names : Edit → List Text
given_names (SetField key name value) = name ∷ []
given_names (DropField key name) = name ∷ []
given_names (AddEntry position new) = field_names new
given_names (AddMany news) = flat_map field_names news
given_names (RenameMacro from to) = from ∷ to ∷ []
given_names (InlineMacro name) = name ∷ []
given_names (IntroduceMacro name text) = name ∷ []
given_names (UndefineMacro name) = name ∷ []
given_names (RenameField from to key) = from ∷ to ∷ []
given_names (DefineMacro name value) = name ∷ []
given_names (SetMacro name value) = name ∷ []
given_names (ChangeEntry key (SetsField field value)) = field.name ∷ []
given_names (ChangeEntry key (DropsField field)) = field.name ∷ []
given_names (ChangeEntry key (RenamesFields from to)) = from ∷ to ∷ []
given_names (ChangeDefinition name k change) = name ∷ []
given_names other = []

-- no `crossref` gets another name, and no field the name `crossref`: parents would come or go
abbrev pub leaves_crossref : Edit → Bool
leaves_crossref (RenameField from to key) = not (same from crossref) && not (same to crossref)
leaves_crossref (ChangeEntry key (RenamesFields from to)) = not (same from crossref) && not (same to crossref)
leaves_crossref other = true

-- the types of entries in the edit
abbrev pub given_types : Edit → List Text
given_types (AddEntry position new) = new.kind_name ∷ []
given_types (AddMany news) = map (λ new. new.kind_name) news
given_types (SetType key kind_name) = kind_name ∷ []
given_types (ChangeEntry key (SetsType kind_name)) = kind_name ∷ []
given_types other = []

-- the values in the edit; a text that gets a name is put in braces
abbrev pub given_values : Edit → List Value
given_values (SetField key name value) = value ∷ []
given_values (AddEntry position new) = field_values new
given_values (AddMany news) = flat_map field_values news
given_values (IntroduceMacro name text) = in_braces text ∷ []
given_values (DefineMacro name value) = value ∷ []
given_values (SetMacro name value) = value ∷ []
given_values (ChangeEntry key (SetsField field value)) = value ∷ []
given_values (ChangeDefinition name k (SetsValue value)) = value ∷ []
given_values other = []

-- ---- what an edit addresses

-- how many entries have the key
abbrev pub holders : Text → Reading → ℕ
holders key db = count_by (is_named key) (keys_of (entries_of db))

-- how many fields of this name are in the entry that the key names
abbrev pub fields_named : Text → Text → Reading → ℕ
fields_named key name db =
    option_map_or (λ entry. count_by (has_name name) entry.fields) (option_and_then (slice_get (entries_of db)) (entry_named (entries_of db) key)) 0

-- the entry has a field of this name
abbrev pub has_field : Text → EntryTexts → Bool
has_field name entry = list_any (has_name name) entry.fields

-- how many fields of the entry would have the name `to` if each `from` became `to`
abbrev pub fields_then : Text → Text → EntryTexts → ℕ
fields_then from to entry = count_by (λ field. has_name from field || has_name to field) entry.fields

-- the entry has a field `from`, and would have two fields `to` if each `from` became `to`
abbrev pub would_repeat : Text → Text → EntryTexts → Bool
would_repeat from to entry = has_field from entry && nat_lt 1 (fields_then from to entry)

-- how many definitions the macro has
abbrev pub definitions : Text → Reading → ℕ
definitions name db = count_by (λ item. defines name item.tree) db.items

-- the texts of the entry that is meant, if there is such an entry
abbrev pub texts_meant : Which → Reading → Option EntryTexts
texts_meant key db = option_and_then (slice_get (entries_of db)) (entry_meant key (entries_of db))

-- there are several of the name, this many, and no number says which is meant
abbrev pub is_unclear : Which → ℕ → Bool
is_unclear which count = is_none which.number && nat_lt 1 count

-- the entry has no such field to be changed; a field that gets a value without a number may be a new one
abbrev pub lacks : EntryChange → EntryTexts → Bool
lacks (SetsField field value) entry = nat_le (count_by (has_name field.name) entry.fields) (number_of field) && is_some field.number
lacks (DropsField field) entry = nat_le (count_by (has_name field.name) entry.fields) (number_of field)
lacks (RenamesFields from to) entry = not (has_field from entry)
lacks other entry = false

-- the entry has several fields of the name, or would have several
abbrev pub repeats : EntryChange → EntryTexts → Bool
repeats (SetsField field value) entry = is_unclear field (count_by (has_name field.name) entry.fields)
repeats (DropsField field) entry = is_unclear field (count_by (has_name field.name) entry.fields)
repeats (RenamesFields from to) entry = would_repeat from to entry
repeats other entry = false

-- an item of these up to the next definition of the macro uses it; in its own definition a macro stands for nothing
abbrev pub is_used_before_next : Text → List Item → Bool
is_used_before_next name [] = false
is_used_before_next name (item ∷ items) = not (defines name item.tree) && (any_part (uses name) item.tree || is_used_before_next name items)

-- a use sees the definition that is item n
abbrev pub is_seen_from : Text → ℕ → List Item → Bool
is_seen_from name n items = is_used_before_next name (drop (suc n) items)

-- the highest position at which an item can be put; a moved item is not counted
abbrev pub last_position : Reading → Edit → ℕ
last_position db (MoveEntry key position) = if is_some (entry_named (entries_of db) key) then length db.items - 1 else length db.items
last_position db (ChangeEntry key (Moves position)) = if is_some (entry_meant key (entries_of db)) then length db.items - 1 else length db.items
last_position db other = length db.items

-- two of the names are the same, folded
abbrev pub has_same : List Text → Bool
has_same [] = false
has_same (name ∷ names) = list_any (same name) names || has_same names

-- the entry is another entry's target
abbrev pub IsReferred : Text → List EntryTexts → Type 0
IsReferred key entries = (n m : ℕ) × (entry_named entries key ≡ Some m) × (parent entries n ≡ Some m)

-- the entry that is meant is another entry's target
abbrev pub IsParentMeant : Which → List EntryTexts → Type 0
IsParentMeant key entries = (n m : ℕ) × (entry_meant key entries ≡ Some m) × (parent entries n ≡ Some m)

-- no command begins in the text before, between or after the items
pub record HasCleanTexts (db : Reading) : Type 0 where
  pub front : IsClean db.front
  pub trails : All (λ item. IsCleanTrail (is_comment item.tree) item.trail) db.items

-- only a closing parenthesis follows the key, so it would belong to the key
abbrev pub ends_in_key : Entry → Bool
ends_in_key e = bytes_eq (after_key_bytes e) (close_paren ∷ [])

-- the item is such an entry
abbrev pub tree_ends_in_key : Tree → Bool
tree_ends_in_key (EntryTree e) = ends_in_key e
tree_ends_in_key other = false

-- ---- refusals

-- why an edit is refused, in the order in which the reasons are tried
pub data EditFault : Type 0 where
  BadKey BadName BadValue BadPosition NotFound Ambiguous KeyInUse NameInUse Referred WouldMerge FileTooLong TextTooLong : EditFault

-- the order of the reasons
abbrev pub rank : EditFault → ℕ
rank BadKey = 0
rank BadName = 1
rank BadValue = 2
rank BadPosition = 3
rank NotFound = 4
rank Ambiguous = 5
rank KeyInUse = 6
rank NameInUse = 7
rank Referred = 8
rank WouldMerge = 9
rank FileTooLong = 10
rank TextTooLong = 11

-- the number of the reason
abbrev pub edit_fault_number : EditFault → ℕ
edit_fault_number BadKey = 31
edit_fault_number BadName = 32
edit_fault_number BadValue = 33
edit_fault_number BadPosition = 34
edit_fault_number NotFound = 35
edit_fault_number Ambiguous = 36
edit_fault_number KeyInUse = 37
edit_fault_number NameInUse = 38
edit_fault_number Referred = 39
edit_fault_number WouldMerge = 40
edit_fault_number FileTooLong = 9
edit_fault_number TextTooLong = 8

-- the position that the edit names is too high
abbrev pub IsPositionTooHigh : Reading → Edit → Type 0
IsPositionTooHigh db (AddEntry position new) = last_position db (AddEntry position new) < position
IsPositionTooHigh db (MoveEntry key position) = last_position db (MoveEntry key position) < position
IsPositionTooHigh db (ChangeEntry key (Moves position)) = last_position db (ChangeEntry key (Moves position)) < position
IsPositionTooHigh db other = ⊥

-- what the edit addresses is not there; no entry is found by an empty key, and a month alone is no definition
abbrev pub IsMissing : Reading → Edit → Type 0
IsMissing db (SetField key name value) = holders key db ≡ 0
IsMissing db (DropField key name) = fields_named key name db ≡ 0
IsMissing db (RemoveEntry key) = holders key db ≡ 0
IsMissing db (MoveEntry key position) = holders key db ≡ 0
IsMissing db (RenameKey from to) = holders from db ≡ 0
IsMissing db (RenameMacro from to) = definitions from db ≡ 0
IsMissing db (InlineMacro name) = definitions name db ≡ 0
IsMissing db (IntroduceMacro name text) = list_any (λ item. any_part (holds text) item.tree) db.items ≡ false
IsMissing db (SetType key kind_name) = holders key db ≡ 0
IsMissing db (UndefineMacro name) = definitions name db ≡ 0
IsMissing db (RenameField from to None) = list_any (has_field from) (entries_of db) ≡ false
IsMissing db (RenameField from to (Some key)) = fields_named key from db ≡ 0
IsMissing db (SetMacro name value) = definitions name db ≡ 0
IsMissing db (ChangeEntry key change) = option_map_or (lacks change) (texts_meant key db) true ≡ true
IsMissing db (ChangeDefinition name k change) = definitions name db ≤ k
IsMissing db other = ⊥

-- what the edit addresses is there twice, or a new entry has a field twice, or an entry would have a renamed field twice
abbrev pub IsAmbiguous : Reading → Edit → Type 0
IsAmbiguous db (SetField key name value) = (1 < holders key db) ⊎ (1 < fields_named key name db)
IsAmbiguous db (DropField key name) = (1 < holders key db) ⊎ (1 < fields_named key name db)
IsAmbiguous db (AddEntry position new) = has_same (field_names new) ≡ true
IsAmbiguous db (RemoveEntry key) = 1 < holders key db
IsAmbiguous db (MoveEntry key position) = 1 < holders key db
IsAmbiguous db (RenameKey from to) = 1 < holders from db
IsAmbiguous db (RenameMacro from to) = 1 < definitions from db
IsAmbiguous db (InlineMacro name) = 1 < definitions name db
IsAmbiguous db (AddMany news) = list_any (λ new. has_same (field_names new)) news ≡ true
IsAmbiguous db (SetType key kind_name) = 1 < holders key db
IsAmbiguous db (UndefineMacro name) = 1 < definitions name db
IsAmbiguous db (RenameField from to None) = list_any (would_repeat from to) (entries_of db) ≡ true
IsAmbiguous db (RenameField from to (Some key)) =
    (1 < holders key db)
    ⊎ (option_map_or (would_repeat from to) (option_and_then (slice_get (entries_of db)) (entry_named (entries_of db) key)) false ≡ true)
IsAmbiguous db (SetMacro name value) = 1 < definitions name db
IsAmbiguous db (ChangeEntry key change) = (is_unclear key (holders key.name db) || option_map_or (repeats change) (texts_meant key db) false) ≡ true
IsAmbiguous db other = ⊥

-- The new key is the key of another entry or of another new entry, or the text of a dangling crossref. That last is a reason
-- only for a key that is renamed, since an added entry may be what the crossref was waiting for.
abbrev pub IsKeyInUse : Reading → Edit → Type 0
IsKeyInUse db (AddEntry position new) = list_any (same new.key) (keys_of (entries_of db)) ≡ true
IsKeyInUse db (AddMany news) =
    (has_same (map (λ new. new.key) news) || list_any (λ new. list_any (same new.key) (keys_of (entries_of db))) news) ≡ true
IsKeyInUse db (RenameKey from to) =
    (list_any (λ key. same to key && not (is_named from key)) (keys_of (entries_of db)) || list_any (same to) (dangling_texts (entries_of db))) ≡ true
IsKeyInUse db (ChangeEntry key (RenamesKey to)) =
    (list_any (same to) (keys_of (entries_of db)) || list_any (same to) (dangling_texts (entries_of db))) ≡ true
IsKeyInUse db other = ⊥

-- The new name of a macro is in use; a change of case alone is no new name. A definition may give a text to a name that is used
-- or that is a month's.
abbrev pub IsNameInUse : Reading → Edit → Type 0
IsNameInUse db (RenameMacro from to) = (not (same to from) && is_in_use to db.items) ≡ true
IsNameInUse db (IntroduceMacro name text) = is_in_use name db.items ≡ true
IsNameInUse db (DefineMacro name value) = 0 < definitions name db
IsNameInUse db other = ⊥

-- The text that a removal joins would begin a command, or lengthen a comment's type name; or a closing parenthesis would
-- become part of a key.
abbrev pub MergesText : Reading → Edit → Type 0
MergesText db (DropField key name) =
    option_map_or (λ item. tree_ends_in_key item.tree) (find (λ item. is_entry key item.tree) (drop_field key name db).items) false ≡ true
MergesText db (RemoveEntry key) = HasCleanTexts (remove_entry key db) → ⊥
MergesText db (MoveEntry key position) = HasCleanTexts (remove_entry key db) → ⊥
MergesText db (InlineMacro name) = HasCleanTexts (inline_macro name db) → ⊥
MergesText db (UndefineMacro name) = HasCleanTexts (undefine_macro name db) → ⊥
MergesText db (ChangeEntry key (DropsField field)) =
    option_map_or (λ item. tree_ends_in_key item.tree) (option_and_then (slice_get (change_entry key (DropsField field) db).items) (item_meant key db.items)) false ≡ true
MergesText db (ChangeEntry key Removes) = HasCleanTexts (change_entry key Removes db) → ⊥
MergesText db (ChangeEntry key (Moves position)) = HasCleanTexts (change_entry key Removes db) → ⊥
MergesText db (ChangeDefinition name k Undefines) = HasCleanTexts (change_definition name k Undefines db) → ⊥
MergesText db other = ⊥

-- The edit is refused for this reason. (dialect)
abbrev pub Refuses : (Record → Text) → EditFault → Reading → Edit → Type 0
Refuses key_base BadKey db e = list_all is_new_key (given_keys e) ≡ false
Refuses key_base BadName db e = (leaves_crossref e && (list_all is_name (given_names e) && list_all is_type (given_types e))) ≡ false
Refuses key_base BadValue db e = All (IsValue name_limit) (given_values e) → ⊥
Refuses key_base BadPosition db e = IsPositionTooHigh db e
Refuses key_base NotFound db e = IsMissing db e
Refuses key_base Ambiguous db e = IsAmbiguous db e
Refuses key_base KeyInUse db e = IsKeyInUse db e
Refuses key_base NameInUse db e = IsNameInUse db e
Refuses key_base Referred db (RemoveEntry key) = IsReferred key (entries_of db)
Refuses key_base Referred db (UndefineMacro name) = is_seen name db.items ≡ true
Refuses key_base Referred db (ChangeEntry key Removes) = IsParentMeant key (entries_of db)
Refuses key_base Referred db (ChangeDefinition name k Undefines) =
    option_map_or (λ n. is_seen_from name n db.items) (definition_meant name k db.items) false ≡ true
Refuses key_base Referred db other = ⊥
Refuses key_base WouldMerge db e = MergesText db e
Refuses key_base FileTooLong db e = file_limit < length (bytes_of (edited key_base db e))
Refuses key_base TextTooLong db e = is_some (too_long_at (edited key_base db e)) ≡ true

-- no reason refuses the edit
abbrev pub IsAccepted : (Record → Text) → Reading → Edit → Type 0
IsAccepted key_base db e = (fault : EditFault) → Refuses key_base fault db e → ⊥

-- the reason refuses the edit, and none before it does
pub record IsFirstRefusal (key_base : Record → Text) (db : Reading) (e : Edit) (fault : EditFault) : Type 0 where
  pub holds : Refuses key_base fault db e
  pub first : (other : EditFault) → rank other < rank fault → Refuses key_base other db e → ⊥
