-- What edits of names keep of the lists that BibTeX 0.99d gives to a style.
use Rattle.std.specs.Prelude.{ℕ, ◌≡◌, ◌≢◌, false, List, [], ◌∷◌, Some, map, codes, slice_get}
use Rattle.std.specs.List.{list_any}
use Rattle.bib_spec.specs.Text.{Text, same}
use Rattle.bib_spec.specs.Reading.{Reading}
use Rattle.bib_spec.specs.Records.{Record, EntryTexts, entries_of, keys_of, crossref_text}
use Rattle.bib_spec.specs.MadeKeys.{IsKeyBase}
use Rattle.edit_spec.specs.Edits.{RenameKey, RenameMacro, InlineMacro, IntroduceMacro, RegenerateKeys, edited, IsAccepted}
use Rattle.edit_spec.specs.Laws.{FindEntries, renamed_keys, AllDiffer}
use Rattle.bibtex_spec.specs.Places.{are_all_cited}
use Rattle.bibtex_spec.specs.Listed.{listed_as_bibtex, unknown_as_bibtex}
use Rattle.bibtex_spec.specs.ListLaws.{InStep, RecordBecomes}

-- the entries that have the name before have the changed name after, and no others; a name that no entry has is unchanged
pub record IsRenamed (old new : List EntryTexts) (name changed : Text) : Type 0 where
  pub entries : map (same name) (keys_of old) ≡ map (same changed) (keys_of new)
  pub unchanged : list_any (same name) (keys_of old) ≡ false → name ≡ changed

-- the changed keys list what the keys listed: the same entries in the same order, with the same fields; keys and crossrefs are
-- renamed
abbrev pub ListsTheSame : Reading → Reading → List Text → List Text → ℕ → Type 0
ListsTheSame old new keys changed least = InStep (RecordBecomes (IsRenamed (entries_of old) (entries_of new)))
    (listed_as_bibtex (entries_of old) keys least) (listed_as_bibtex (entries_of new) changed least)

-- `*` alone lists the same; and so do keys that all find entries, by their new names, if neither list has a `*`
pub record KeepsLists (old new : Reading) : Type 0 where
  pub all : (least : ℕ) → ListsTheSame old new (codes "*" ∷ []) (codes "*" ∷ []) least
  pub cited : (keys : List Text) (least : ℕ) → FindEntries old keys → are_all_cited keys ≡ false → are_all_cited (renamed_keys old new keys) ≡ false
      → ListsTheSame old new keys (renamed_keys old new keys) least

-- Renaming a key keeps every list, except for that key.
abbrev pub rename_key_keeps_lists : Type 0
rename_key_keeps_lists = (key_base : Record → Text) (db : Reading) (from to : Text) → IsAccepted key_base db (RenameKey from to) →
    KeepsLists db (edited key_base db (RenameKey from to))

-- no entry has an empty crossref while one has an empty key
abbrev pub NoneNamesNothing : List EntryTexts → Type 0
NoneNamesNothing entries = (n m : ℕ) (entry other : EntryTexts) → slice_get entries n ≡ Some entry → slice_get entries m ≡ Some other
    → crossref_text entry ≡ Some [] → other.key ≢ []

-- Regenerating all keys keeps every list, except for the keys, if no two entries have one key. (A parent that stands before its
-- child may have the key of a later entry, which BibTeX takes for the parent.)
abbrev pub regenerate_keys_keeps_lists : Type 0
regenerate_keys_keeps_lists = (key_base : Record → Text) → IsKeyBase key_base → (db : Reading) (depth : ℕ) → IsAccepted key_base db (RegenerateKeys depth) →
    AllDiffer (keys_of (entries_of db)) → NoneNamesNothing (entries_of db) → KeepsLists db (edited key_base db (RegenerateKeys depth))

-- each list of keys lists the same records, and the same keys are unknown
pub record KeepsEachList (old new : Reading) : Type 0 where
  pub listed : (keys : List Text) (least : ℕ) → listed_as_bibtex (entries_of new) keys least ≡ listed_as_bibtex (entries_of old) keys least
  pub unknown : (keys : List Text) → unknown_as_bibtex (entries_of new) keys ≡ unknown_as_bibtex (entries_of old) keys

-- Renaming a macro, replacing its uses by its text, and giving a text a name keep every list.
pub record MacroEditsKeepLists (key_base : Record → Text) (db : Reading) : Type 0 where
  pub renamed : (from to : Text) → IsAccepted key_base db (RenameMacro from to) → KeepsEachList db (edited key_base db (RenameMacro from to))
  pub inlined : (name : Text) → IsAccepted key_base db (InlineMacro name) → KeepsEachList db (edited key_base db (InlineMacro name))
  pub introduced : (name text : Text) → IsAccepted key_base db (IntroduceMacro name text) → KeepsEachList db (edited key_base db (IntroduceMacro name text))
