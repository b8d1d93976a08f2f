-- What the edits keep: each law is about every database and every accepted edit.
use Rattle.std.specs.Prelude.{◌≡◌, ◌<◌, ◌≤◌, ◌≢◌, ℕ, suc, Bool, true, false, List, [], Option, Some, None, is_some, unwrap_or, option_map, option_and_then, slice_get, map, length, take, find, not, ◌==◌, ◌∷◌, ◌++◌, filter, if◌then◌else◌}
use Rattle.std.specs.List.{flat_map, list_any, list_all}
use Rattle.std.specs.Option.{option_map_or}
use Rattle.bib_spec.specs.Text.{Text, folded, same, IsBalanced}
use Rattle.bib_spec.specs.Tree.{Part, Value, Definition, Tree, DefinitionTree, PreambleTree, EntryTree, value_bytes}
use Rattle.bib_spec.specs.Reading.{Item, Reading, Reads, bytes_of}
use Rattle.bib_spec.specs.Texts.{months, macros_in, macros_at, raw_text, seen}
use Rattle.bib_spec.specs.Records.{Field, EntryTexts, Record, RecordField, entries_of, preambles_of, keys_of, entry_named, parent, ancestors, expanded, cites_all, listed, unknown}
use Rattle.bib_spec.specs.Pieces.{Fit, applied, old_of, new_of}
use Rattle.bib_spec.specs.MadeKeys.{new_keys, IsKeyBase}
use Rattle.part_spec.specs.Parts.{uses, holds, any_part, have_part}
use Rattle.edit_spec.specs.Edits.{Edit, RenameKey, RenameMacro, InlineMacro, IntroduceMacro, RegenerateKeys, SetType, UndefineMacro, RenameField, DefineMacro, SetMacro, changed, name_renamed, defines, key_for, definitions_end, edited, IsAccepted}
use Rattle.edit_spec.specs.EditChunks.{chunks, pieces_of}

-- ---- macros

-- item n comes after a definition of the name
abbrev pub is_after : Text → List Item → ℕ → Bool
is_after name items n = list_any (λ item. defines name item.tree) (take n items)

-- item n, or an item before it, passes the test
abbrev pub is_reached : (Tree → Bool) → List Item → ℕ → Bool
is_reached test items n = list_any (λ item. test item.tree) (take (suc n) items)

-- From a definition of the name to the next one, the name stands for the raw text of that definition's value at its place.
abbrev pub sees_last_definition : Type 0
sees_last_definition = (db : Reading) (name : Text) (k n : ℕ) (item : Item) (d : Definition) →
    slice_get db.items k ≡ Some item → item.tree ≡ DefinitionTree d → same d.assignment.name name ≡ true → k < n →
    ((j : ℕ) (other : Item) → k < j → j < n → slice_get db.items j ≡ Some other → defines name other.tree ≡ false) →
    seen db n name ≡ Some (raw_text (macros_in (macros_at months db.items k) (DefinitionTree d)) d.assignment.value)

-- Before the first definition of a name, the name stands for a month's text if it is a month's, and else for nothing.
abbrev pub sees_months : Type 0
sees_months = (db : Reading) (name : Text) (n : ℕ) → is_after name db.items n ≡ false → seen db n name ≡ months (folded name)

-- what a macro stands for is balanced, so in braces it is a part
abbrev pub macros_balance : Type 0
macros_balance = (file : Text) (db : Reading) → Reads file db → (n : ℕ) (name text : Text) → seen db n name ≡ Some text → IsBalanced text

-- ---- what a renaming keeps

-- a record with its key replaced, if there is a new one
abbrev pub record_with_key : Option Text → Record → Record
record_with_key None r = r
record_with_key (Some key) r = record r { key = key }

-- no entry gets a new key
abbrev pub no_new_key : ℕ → Option Text
no_new_key n = None

-- Each entry's record, at every depth, is unchanged except for its new key; each parent and each preamble is unchanged.
pub record KeepsEntries (new_key : ℕ → Option Text) (old new : Reading) : Type 0 where
  pub count : length (entries_of new) ≡ length (entries_of old)
  pub records : (depth n : ℕ) → expanded depth (entries_of new) n ≡ option_map (record_with_key (new_key n)) (expanded depth (entries_of old) n)
  pub parents : (n : ℕ) → parent (entries_of new) n ≡ parent (entries_of old) n
  pub preambles : preambles_of new ≡ preambles_of old

-- the same list of keys lists the same entries, and the same keys find none
pub record KeepsCitations (old new : Reading) : Type 0 where
  pub cited : (keys : List Text) (min : ℕ) → listed (entries_of new) keys min ≡ listed (entries_of old) keys min
  pub unknowns : (keys : List Text) → unknown (entries_of new) keys ≡ unknown (entries_of old) keys

-- each name stands for what it stood for, at each item and at the end
abbrev pub KeepsMacros : Reading → Reading → Type 0
KeepsMacros old new = (n : ℕ) (name : Text) → seen new n name ≡ seen old n name

-- ---- renaming keys

-- the key that the entry named by `key` has in the new database; a key that names no entry is unchanged
abbrev pub renamed_key : List EntryTexts → List EntryTexts → Text → Text
renamed_key old new key = unwrap_or (option_and_then (slice_get (keys_of new)) (entry_named old key)) key

-- the list of keys that the named entries have in the new database
abbrev pub renamed_keys : Reading → Reading → List Text → List Text
renamed_keys old new keys = map (renamed_key (entries_of old) (entries_of new)) keys

-- each key of the list names an entry
abbrev pub FindEntries : Reading → List Text → Type 0
FindEntries db keys = list_all (λ key. is_some (entry_named (entries_of db) key)) keys ≡ true

-- If all keys of a list find entries, the list of their new keys lists the same entries, unless one of the two lists is `*`
-- alone. The list `*` alone lists all entries, before and after.
pub record KeepsCitationsByKey (old new : Reading) : Type 0 where
  pub cited : (keys : List Text) (min : ℕ) → FindEntries old keys → cites_all keys ≡ false → cites_all (renamed_keys old new keys) ≡ false
      → listed (entries_of new) (renamed_keys old new keys) min ≡ listed (entries_of old) keys min
  pub unknowns : (keys : List Text) → FindEntries old keys → unknown (entries_of new) (renamed_keys old new keys) ≡ []
  pub all : (keys : List Text) (min : ℕ) → cites_all keys ≡ true → listed (entries_of new) keys min ≡ listed (entries_of old) keys min

-- Renaming a key keeps all that the database says, except for that key.
abbrev pub rename_key_keeps : Type 0
rename_key_keeps = (key_base : Record → Text) (db : Reading) (from to : Text) → IsAccepted key_base db (RenameKey from to) →
    let new : Reading = edited key_base db (RenameKey from to) in
    KeepsEntries (key_for (entry_named (entries_of db) from) to) db new × KeepsMacros db new × KeepsCitationsByKey db new

-- no two are the same, folded
abbrev pub AllDiffer : List Text → Type 0
AllDiffer keys = (n m : ℕ) (a b : Text) → slice_get keys n ≡ Some a → slice_get keys m ≡ Some b → n ≢ m → same a b ≡ false

-- Regenerating all keys keeps all that the database says, except for the keys.
abbrev pub regenerate_keys_keeps : Type 0
regenerate_keys_keeps = (key_base : Record → Text) → IsKeyBase key_base → (db : Reading) (depth : ℕ) → IsAccepted key_base db (RegenerateKeys depth) →
    let new : Reading = edited key_base db (RegenerateKeys depth) in
    KeepsEntries (slice_get (new_keys key_base depth (entries_of db))) db new × KeepsMacros db new × KeepsCitationsByKey db new

-- All made keys differ, folded.
abbrev pub made_keys_differ : Type 0
made_keys_differ = (key_base : Record → Text) → IsKeyBase key_base → (db : Reading) (depth : ℕ) → IsAccepted key_base db (RegenerateKeys depth) →
    AllDiffer (keys_of (entries_of (edited key_base db (RegenerateKeys depth))))

-- Regenerating all keys a second time is not refused, and changes nothing.
abbrev pub regenerating_again_changes_nothing : Type 0
regenerating_again_changes_nothing = (key_base : Record → Text) → IsKeyBase key_base → (db : Reading) (depth : ℕ) → IsAccepted key_base db (RegenerateKeys depth) →
    let new : Reading = edited key_base db (RegenerateKeys depth) in
    IsAccepted key_base new (RegenerateKeys depth) × (edited key_base new (RegenerateKeys depth) ≡ new)

-- ---- types

-- a record with its type replaced, if there is a new one; a record has its type in lower case
abbrev pub record_with_type : Option Text → Record → Record
record_with_type None r = r
record_with_type (Some kind_name) r = record r { kind_name = folded kind_name }

-- the new types, if only one entry gets a new type
abbrev pub type_for : Option ℕ → Text → ℕ → Option Text
type_for named kind_name n = key_for named kind_name n

-- Each entry's record, at every depth, is unchanged except for its new type; each parent and each preamble is unchanged.
pub record KeepsAllButTypes (new_type : ℕ → Option Text) (old new : Reading) : Type 0 where
  pub count : length (entries_of new) ≡ length (entries_of old)
  pub records : (depth n : ℕ) → expanded depth (entries_of new) n ≡ option_map (record_with_type (new_type n)) (expanded depth (entries_of old) n)
  pub parents : (n : ℕ) → parent (entries_of new) n ≡ parent (entries_of old) n
  pub preambles : preambles_of new ≡ preambles_of old

-- Giving an entry another type keeps all that the database says, except for that type.
abbrev pub set_type_keeps : Type 0
set_type_keeps = (key_base : Record → Text) (db : Reading) (key kind_name : Text) → IsAccepted key_base db (SetType key kind_name) →
    let new : Reading = edited key_base db (SetType key kind_name) in
    KeepsAllButTypes (type_for (entry_named (entries_of db) key) kind_name) db new × KeepsMacros db new × KeepsCitations db new

-- ---- renaming fields

-- the edit renames fields of entry n, as this key says it
abbrev pub is_renamed_in : Reading → Option Text → ℕ → Bool
is_renamed_in db None n = true
is_renamed_in db (Some key) n = option_map_or (λ m. m == n) (entry_named (entries_of db) key) false

-- a field of an entry whose name `from` becomes `to`
abbrev pub field_renamed : Text → Text → Field → Field
field_renamed from to field = record field { name = changed (name_renamed from to) field.name }

-- an entry's texts, with each name `from` changed to `to` if its fields are renamed
abbrev pub texts_renamed : Text → Text → Bool → EntryTexts → EntryTexts
texts_renamed from to is_renamed entry = if is_renamed then record entry { fields = map (field_renamed from to) entry.fields } else entry

-- a field of a record whose name `from` becomes `to`; a record has names in lower case
abbrev pub record_field_renamed : Text → Text → RecordField → RecordField
record_field_renamed from to field = (if same field.0 from then folded to else field.0, field.1)

-- the first field of each name
abbrev pub first_of_each : List RecordField → List RecordField
first_of_each [] = []
first_of_each (field ∷ fields) = field ∷ filter (λ other. not (same field.0 other.0)) (first_of_each fields)

-- A record with each name `from` changed to `to`. If the entry now has the name of a field that it inherited, or inherits one that
-- has a name of its own, its own field counts.
abbrev pub record_renamed : Text → Text → Record → Record
record_renamed from to r = record r { fields = first_of_each (map (record_field_renamed from to) r.fields) }

-- The texts of the entries in which fields are renamed have the new name in place of the old one, and all other entries are
-- what they were; so is each parent, and each preamble.
pub record KeepsAllButNames (from to : Text) (is_renamed : ℕ → Bool) (old new : Reading) : Type 0 where
  pub count : length (entries_of new) ≡ length (entries_of old)
  pub entries : (n : ℕ) → slice_get (entries_of new) n ≡ option_map (texts_renamed from to (is_renamed n)) (slice_get (entries_of old) n)
  pub parents : (n : ℕ) → parent (entries_of new) n ≡ parent (entries_of old) n
  pub preambles : preambles_of new ≡ preambles_of old

-- Renaming fields keeps all that the database says, except for their names.
abbrev pub rename_field_keeps : Type 0
rename_field_keeps = (key_base : Record → Text) (db : Reading) (from to : Text) (key : Option Text) → IsAccepted key_base db (RenameField from to key) →
    let new : Reading = edited key_base db (RenameField from to key) in
    KeepsAllButNames from to (is_renamed_in db key) db new × KeepsMacros db new × KeepsCitations db new

-- In every entry, each record has at every depth the new name in place of the old one.
abbrev pub renamed_fields_are_inherited : Type 0
renamed_fields_are_inherited = (key_base : Record → Text) (db : Reading) (from to : Text) → IsAccepted key_base db (RenameField from to None) → (depth n : ℕ) →
    expanded depth (entries_of (edited key_base db (RenameField from to None))) n ≡ option_map (record_renamed from to) (expanded depth (entries_of db) n)

-- ---- renaming macros

-- After the definition the new name stands for what the old name stood for. A change of case alone changes no meaning.
pub record SeesRenamed (from to : Text) (old new : Reading) : Type 0 where
  pub other : (n : ℕ) (name : Text) → same name from ≡ false → same name to ≡ false → seen new n name ≡ seen old n name
  pub before : (n : ℕ) (name : Text) → is_after from old.items n ≡ false → seen new n name ≡ seen old n name
  pub after : (n : ℕ) → is_after from old.items n ≡ true → seen new n to ≡ seen old n from
  pub respelled : same to from ≡ true → (n : ℕ) (name : Text) → seen new n name ≡ seen old n name

-- Renaming a macro keeps all that the database says, except for the name.
abbrev pub rename_macro_keeps : Type 0
rename_macro_keeps = (key_base : Record → Text) (db : Reading) (from to : Text) → IsAccepted key_base db (RenameMacro from to) →
    let new : Reading = edited key_base db (RenameMacro from to) in
    KeepsEntries no_new_key db new × KeepsCitations db new × SeesRenamed from to db new

-- Before the definition all names stand for what they stood for. After it each item's number is one less, and all names
-- except the macro's stand for what they stood for.
pub record SeesInlined (name : Text) (old new : Reading) : Type 0 where
  pub before : (n : ℕ) (other : Text) → is_after name old.items n ≡ false → seen new n other ≡ seen old n other
  pub after : (n : ℕ) (other : Text) → is_after name old.items (suc n) ≡ true → same other name ≡ false → seen new n other ≡ seen old (suc n) other

-- Replacing a macro's uses by its text keeps all that the database says, except for the macro.
abbrev pub inline_macro_keeps : Type 0
inline_macro_keeps = (key_base : Record → Text) (db : Reading) (name : Text) → IsAccepted key_base db (InlineMacro name) →
    let new : Reading = edited key_base db (InlineMacro name) in
    KeepsEntries no_new_key db new × KeepsCitations db new × SeesInlined name db new

-- Without the definition, the name stands for a month's text, or for nothing, and all other names for what they stood for. An
-- item after the definition has a number that is one less.
pub record SeesUndefined (name : Text) (old new : Reading) : Type 0 where
  pub before : (n : ℕ) (other : Text) → is_after name old.items n ≡ false → seen new n other ≡ seen old n other
  pub after : (n : ℕ) (other : Text) → is_after name old.items (suc n) ≡ true → same other name ≡ false → seen new n other ≡ seen old (suc n) other
  pub undefined : (n : ℕ) → seen new n name ≡ months (folded name)

-- Removing the definition of a macro that nothing uses keeps all that the database says, except for the macro.
abbrev pub undefine_macro_keeps : Type 0
undefine_macro_keeps = (key_base : Record → Text) (db : Reading) (name : Text) → IsAccepted key_base db (UndefineMacro name) →
    let new : Reading = edited key_base db (UndefineMacro name) in
    KeepsEntries no_new_key db new × KeepsCitations db new × SeesUndefined name db new

-- Up to the new definition all names stand for what they stood for. From there on each item's number is one more, and all
-- names except the new one stand for what they stood for.
pub record SeesDefined (name : Text) (place : ℕ) (old new : Reading) : Type 0 where
  pub before : (n : ℕ) (other : Text) → n ≤ place → seen new n other ≡ seen old n other
  pub after : (n : ℕ) (other : Text) → place ≤ n → same other name ≡ false → seen new (suc n) other ≡ seen old n other

-- If nothing uses the macro that is defined, all that the database says is kept, except for the macro.
abbrev pub KeepsIfUnused : Text → Reading → Reading → Type 0
KeepsIfUnused name old new =
    have_part (uses name) old.items ≡ false → KeepsEntries no_new_key old new × KeepsCitations old new × SeesDefined name (definitions_end old.items) old new

-- Defining a macro that nothing uses keeps all that the database says, except for the macro.
abbrev pub define_macro_keeps : Type 0
define_macro_keeps = (key_base : Record → Text) (db : Reading) (name : Text) (value : Value) → IsAccepted key_base db (DefineMacro name value) →
    KeepsIfUnused name db (edited key_base db (DefineMacro name value))

-- Before the first item that holds the text all names stand for what they stood for. From that item on each item's number is
-- one more, the new name stands for the text, and all other names stand for what they stood for.
pub record SeesIntroduced (name text : Text) (old new : Reading) : Type 0 where
  pub before : (n : ℕ) (other : Text) → is_reached (any_part (holds text)) old.items n ≡ false → seen new n other ≡ seen old n other
  pub after : (n : ℕ) (other : Text) → is_reached (any_part (holds text)) old.items n ≡ true → same other name ≡ false → seen new (suc n) other ≡ seen old n other
  pub introduced : (n : ℕ) → is_reached (any_part (holds text)) old.items n ≡ true → seen new (suc n) name ≡ Some text

-- Giving a text a name keeps all that the database says, except for the name.
abbrev pub introduce_macro_keeps : Type 0
introduce_macro_keeps = (key_base : Record → Text) (db : Reading) (name text : Text) → IsAccepted key_base db (IntroduceMacro name text) →
    let new : Reading = edited key_base db (IntroduceMacro name text) in
    KeepsEntries no_new_key db new × KeepsCitations db new × SeesIntroduced name text db new

-- ---- values of macros

-- the part is one of these names
abbrev pub is_use_of : List Text → Part → Bool
is_use_of names part = list_any (λ name. uses name part) names

-- the names, and before them the name of this definition if its value uses one of them
abbrev pub with_dependent : List Text → Tree → List Text
with_dependent names (DefinitionTree d) =
    if any_part (is_use_of names) (DefinitionTree d) then d.assignment.name ∷ names else names
with_dependent names other = names

-- the macros whose texts may change when the macro's does: these names, and, item by item, each macro whose definition uses one
-- of the names so far
abbrev pub dependents : List Text → List Item → List Text
dependents names [] = names
dependents names (item ∷ items) = dependents (with_dependent names item.tree) items

-- whether the entry that an item is uses one of the names, or nothing for other items
abbrev pub entry_uses : List Text → Tree → List Bool
entry_uses names (EntryTree e) = any_part (is_use_of names) (EntryTree e) ∷ []
entry_uses names other = []

-- entry n uses one of the names
abbrev pub is_user : List Text → Reading → ℕ → Bool
is_user names db n = unwrap_or (slice_get (flat_map (λ item. entry_uses names item.tree) db.items) n) false

-- the item is a preamble that uses one of the names
abbrev pub preamble_uses : List Text → Tree → Bool
preamble_uses names (PreambleTree p) = any_part (is_use_of names) (PreambleTree p)
preamble_uses names other = false

-- Each entry that uses none of the names says what it said. Its record at a depth is unchanged if no entry from which it inherits
-- uses one of them either. All keys are unchanged, and so is what all other names stand for at each item.
pub record KeepsAllButUsers (names : List Text) (old new : Reading) : Type 0 where
  pub keys : keys_of (entries_of new) ≡ keys_of (entries_of old)
  pub texts : (n : ℕ) → is_user names old n ≡ false → slice_get (entries_of new) n ≡ slice_get (entries_of old) n
  pub records : (depth n : ℕ) → list_any (is_user names old) (n ∷ ancestors (entries_of old) depth n) ≡ false
      → expanded depth (entries_of new) n ≡ expanded depth (entries_of old) n
  pub preambles : list_any (λ item. preamble_uses names item.tree) old.items ≡ false → preambles_of new ≡ preambles_of old
  pub macros : (n : ℕ) (other : Text) → list_any (same other) names ≡ false → seen new n other ≡ seen old n other

-- Giving a macro another value keeps what all entries say that use neither the macro nor a macro that depends on it.
abbrev pub set_macro_keeps : Type 0
set_macro_keeps = (key_base : Record → Text) (db : Reading) (name : Text) (value : Value) → IsAccepted key_base db (SetMacro name value) →
    KeepsAllButUsers (dependents (name ∷ []) db.items) db (edited key_base db (SetMacro name value))

-- The file is the value of a definition of the macro with bytes before it and after it. Then the new value is between the same bytes.
pub record ReplacesValue (name : Text) (value : Value) (old new : Reading) : Type 0 where
  pub item : Item
  pub found : find (λ item. defines name item.tree) old.items ≡ Some item
  pub definition : Definition
  pub is : item.tree ≡ DefinitionTree definition
  pub bytes_before : Text
  pub bytes_after : Text
  pub old_file : bytes_of old ≡ bytes_before ++ (value_bytes definition.assignment.value ++ bytes_after)
  pub new_file : bytes_of new ≡ bytes_before ++ (value_bytes value ++ bytes_after)

-- Giving a macro another value replaces the value of its definition, and no other byte.
abbrev pub set_macro_replaces_a_value : Type 0
set_macro_replaces_a_value = (key_base : Record → Text) (db : Reading) (name : Text) (value : Value) → IsAccepted key_base db (SetMacro name value) →
    ReplacesValue name value db (edited key_base db (SetMacro name value))

-- ---- pieces

-- The chunks of an edit have the file as their old text, and the file of the new database as their new text.
abbrev pub chunks_are_files : Type 0
chunks_are_files = (key_base : Record → Text) (db : Reading) (e : Edit) →
    (old_of (chunks key_base db e) ≡ bytes_of db) × (new_of (chunks key_base db e) ≡ bytes_of (edited key_base db e))

-- The pieces of an edit fit the file, and lead to the file of the new database.
abbrev pub pieces_lead_to_edited : Type 0
pieces_lead_to_edited = (key_base : Record → Text) (db : Reading) (e : Edit) →
    Fit (pieces_of key_base db e) (bytes_of db) × (applied (pieces_of key_base db e) (bytes_of db) ≡ bytes_of (edited key_base db e))
