-- What a change of one entry or definition among several of its name keeps: each law is about every database and every accepted
-- edit.
use Rattle.std.specs.Prelude.{◌≡◌, ◌≤◌, ◌+◌, ℕ, suc, true, false, List, [], ◌∷◌, ◌++◌, Some, drop, slice_get}
use Rattle.bib_spec.specs.Text.{Text, same}
use Rattle.bib_spec.specs.Tree.{Value, Definition, DefinitionTree, value_bytes}
use Rattle.bib_spec.specs.Reading.{Item, Reading, bytes_of}
use Rattle.bib_spec.specs.Texts.{seen}
use Rattle.bib_spec.specs.Records.{EntryTexts, Record, entries_of, target}
use Rattle.edit_spec.specs.Edits.{Which, RenamesFields, SetsType, RenamesKey, Removes, SetsValue, Undefines, ChangeEntry, ChangeDefinition, key_for, entry_meant, definition_meant, edited, IsAccepted}
use Rattle.edit_spec.specs.Laws.{is_after, no_new_key, KeepsEntries, KeepsMacros, KeepsCitations, KeepsCitationsByKey, KeepsAllButTypes, KeepsAllButNames, KeepsAllButUsers, type_for, dependents}
use Rattle.edit_spec.specs.OtherLaws.{is_meant, number_with_one_more, KeepsOthers}

-- ---- entries

-- No crossref names an entry whose key an earlier entry has: each names the first.
abbrev pub later_entries_are_no_targets : Type 0
later_entries_are_no_targets = (entries : List EntryTexts) (name : Text) (k m : ℕ) → entry_meant (record { name = name; number = Some (suc k) }) entries ≡ Some m →
    (n : ℕ) → target entries n ≡ Some m → ⊥

-- Renaming the key of one entry among several keeps all that the database says, except for that key.
abbrev pub rename_one_key_keeps : Type 0
rename_one_key_keeps = (key_base : Record → Text) (db : Reading) (key : Which) (to : Text) → IsAccepted key_base db (ChangeEntry key (RenamesKey to)) →
    let new : Reading = edited key_base db (ChangeEntry key (RenamesKey to)) in
    KeepsEntries (key_for (entry_meant key (entries_of db)) to) db new × KeepsMacros db new × KeepsCitationsByKey db new

-- Giving one entry among several another type keeps all that the database says, except for that type.
abbrev pub set_one_type_keeps : Type 0
set_one_type_keeps = (key_base : Record → Text) (db : Reading) (key : Which) (kind_name : Text) → IsAccepted key_base db (ChangeEntry key (SetsType kind_name)) →
    let new : Reading = edited key_base db (ChangeEntry key (SetsType kind_name)) in
    KeepsAllButTypes (type_for (entry_meant key (entries_of db)) kind_name) db new × KeepsMacros db new × KeepsCitations db new

-- Renaming fields of one entry among several keeps all that the database says, except for their names.
abbrev pub rename_fields_of_one_keeps : Type 0
rename_fields_of_one_keeps = (key_base : Record → Text) (db : Reading) (key : Which) (from to : Text) → IsAccepted key_base db (ChangeEntry key (RenamesFields from to)) →
    let new : Reading = edited key_base db (ChangeEntry key (RenamesFields from to)) in
    KeepsAllButNames from to (is_meant (entry_meant key (entries_of db))) db new × KeepsMacros db new × KeepsCitations db new

-- Removing one entry among several keeps every other entry's record and parent; the numbers of the entries after it become one less.
abbrev pub remove_one_keeps_others : Type 0
remove_one_keeps_others = (key_base : Record → Text) (db : Reading) (key : Which) → IsAccepted key_base db (ChangeEntry key Removes) →
    (i : ℕ) × (entry_meant key (entries_of db) ≡ Some i) × KeepsOthers (number_with_one_more i) 1 (edited key_base db (ChangeEntry key Removes)) db

-- ---- definitions

-- Giving one definition of a macro another value keeps what all entries say that use neither the macro nor a macro that depends on it.
abbrev pub set_one_definition_keeps : Type 0
set_one_definition_keeps = (key_base : Record → Text) (db : Reading) (name : Text) (k : ℕ) (value : Value) →
    IsAccepted key_base db (ChangeDefinition name k (SetsValue value)) →
    KeepsAllButUsers (dependents (name ∷ []) db.items) db (edited key_base db (ChangeDefinition name k (SetsValue value)))

-- The file is the value of definition `n` with bytes before it and after it. Then the new value is between the same bytes.
pub record ReplacesValueOf (n : ℕ) (value : Value) (old new : Reading) : Type 0 where
  pub item : Item
  pub at : slice_get old.items n ≡ Some item
  pub definition : Definition
  pub is : item.tree ≡ DefinitionTree definition
  pub bytes_before : Text
  pub bytes_after : Text
  pub old_file : bytes_of old ≡ bytes_before ++ (value_bytes definition.assignment.value ++ bytes_after)
  pub new_file : bytes_of new ≡ bytes_before ++ (value_bytes value ++ bytes_after)

-- Giving one definition of a macro another value replaces the value of that definition, and no other byte.
abbrev pub set_one_definition_replaces_a_value : Type 0
set_one_definition_replaces_a_value = (key_base : Record → Text) (db : Reading) (name : Text) (k : ℕ) (value : Value) →
    IsAccepted key_base db (ChangeDefinition name k (SetsValue value)) →
    (n : ℕ) × (definition_meant name k db.items ≡ Some n) × ReplacesValueOf n value db (edited key_base db (ChangeDefinition name k (SetsValue value)))

-- Without item `n`, which defines the macro, all other names stand for what they stood for, and an item after it has a number
-- that is one less. The macro itself stands for what it stood for up to that item, and again from its next definition on.
pub record SeesWithout (name : Text) (n : ℕ) (old new : Reading) : Type 0 where
  pub before : (i : ℕ) (other : Text) → i ≤ n → seen new i other ≡ seen old i other
  pub after : (i : ℕ) (other : Text) → n ≤ i → same other name ≡ false → seen new i other ≡ seen old (suc i) other
  pub again : (i : ℕ) → is_after name (drop (suc n) old.items) i ≡ true → seen new (n + i) name ≡ seen old (suc (n + i)) name

-- Removing one definition of a macro that no use sees keeps all that the database says, except for the macro.
abbrev pub undefine_one_keeps : Type 0
undefine_one_keeps = (key_base : Record → Text) (db : Reading) (name : Text) (k : ℕ) → IsAccepted key_base db (ChangeDefinition name k Undefines) →
    let new : Reading = edited key_base db (ChangeDefinition name k Undefines) in
    (n : ℕ) × (definition_meant name k db.items ≡ Some n) × (KeepsEntries no_new_key db new × KeepsCitations db new × SeesWithout name n db new)
