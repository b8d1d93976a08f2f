-- What a session keeps of what its file says, when keys and macros change. (dialect)
use Rattle.std.specs.Prelude.{ℕ, ◌≡◌, Bool, true, false, List, [], ◌∷◌, Option, Some, None, option_map, length, slice_get}
use Rattle.std.specs.List.{list_all}
use Rattle.bib_spec.specs.Text.{Text}
use Rattle.bib_spec.specs.Reading.{Reading}
use Rattle.bib_spec.specs.Records.{Record, entries_of, preambles_of, keys_of, parent, expanded}
use Rattle.bib_spec.specs.MadeKeys.{new_keys}
use Rattle.edit_spec.specs.Edits.{key_for, number_of, definition_meant}
use Rattle.edit_spec.specs.Laws.{KeepsEntries, KeepsAllButNames, KeepsAllButTypes, KeepsAllButUsers, KeepsIfUnused, dependents, KeepsMacros, KeepsCitations, KeepsCitationsByKey, SeesRenamed, SeesInlined, SeesIntroduced, SeesUndefined, AllDiffer, no_new_key, type_for}
use Rattle.edit_spec.specs.OtherLaws.{is_meant}
use Rattle.edit_spec.specs.OneLaws.{SeesWithout}
use Rattle.history_spec.specs.Steps.{IsSound}
use Rattle.bib_store.specs.Readings.{OfReading}
use Rattle.bib_data.specs.declared.edit.Edit.{Edit}
use Rattle.bib_data.specs.declared.edit.Edit.TheVariants.{RenameKey, RegenerateKeys, RenameMacro, InlineMacro, IntroduceMacro, SetType, UndefineMacro, RenameField, DefineMacro, SetMacro}
use Rattle.bib_data.specs.declared.request.Request.{Request}
use Rattle.bib_data.specs.declared.request.Request.TheVariants as request
use Rattle.bib_edit.specs.declared.fault.EditFault.{EditFault}
use Rattle.bib_edit.specs.Numbers.{is_numbered, which_of}
use Rattle.bib_edit.specs.Asking.{entry_asked, name_asked}
use Rattle.bib_keys.specs.MadeBase.{made_base}
use Rattle.bib_journal.specs.declared.fault.SessionFault.{SessionFault}
use Rattle.bib_journal.specs.declared.fault.SessionFault.TheVariants.{Refused}
use Rattle.bib_journal.specs.OpenSteps.{SessionState}
use Rattle.bib_journal.specs.Session.{MakesEdit, RefusesEdit, Performs}

-- ---- one renaming

-- the edit renames fields of entry n: in the entry that the key means, or in every entry
abbrev pub is_asked : Option Text → Reading → ℕ → Bool
is_asked None old n = true
is_asked (Some key) old n = is_meant (entry_asked key (entries_of old)) n

-- What names stand for without the definition that is removed. If a number told which one of several it is, the macro itself stands for
-- what it stood for before that definition, and again after the next one.
pub record SeesOthers (name : Text) (old new : Reading) : Type 0 where
  pub alone : is_numbered name ≡ false → SeesUndefined name old new
  pub one : is_numbered name ≡ true →
      (n : ℕ) × (definition_meant (which_of name).name (number_of (which_of name)) old.items ≡ Some n) × SeesWithout (which_of name).name n old new

-- What a renaming keeps: each entry's record and parent, each preamble, what each macro stands for, and each cited list are
-- what they were, except the names that it gives. Keys that are made all differ. An entry that gets another type keeps all but
-- that type, and entries whose fields get another name keep all but these names. A macro that nothing uses is defined, and all is
-- what it was, except for that macro; a macro gets another value, and all is that does not depend on it. Nothing is said here about
-- other edits.
abbrev pub Keeps : Edit → Reading → Reading → Type 0
Keeps (RenameKey from to) old new = KeepsEntries (key_for (entry_asked from (entries_of old)) to) old new × KeepsMacros old new × KeepsCitationsByKey old new
Keeps (RegenerateKeys depth) old new =
    KeepsEntries (slice_get (new_keys made_base depth (entries_of old))) old new × KeepsMacros old new × KeepsCitationsByKey old new × AllDiffer (keys_of (entries_of new))
Keeps (RenameMacro from to) old new = KeepsEntries no_new_key old new × KeepsCitations old new × SeesRenamed from to old new
Keeps (InlineMacro name) old new = KeepsEntries no_new_key old new × KeepsCitations old new × SeesInlined name old new
Keeps (IntroduceMacro name text) old new = KeepsEntries no_new_key old new × KeepsCitations old new × SeesIntroduced name text old new
Keeps (UndefineMacro name) old new = KeepsEntries no_new_key old new × KeepsCitations old new × SeesOthers name old new
Keeps (RenameField from to key) old new = KeepsAllButNames from to (is_asked key old) old new × KeepsMacros old new × KeepsCitations old new
Keeps (DefineMacro name value) old new = KeepsIfUnused name old new
Keeps (SetMacro name value) old new = KeepsAllButUsers (dependents (name_asked name ∷ []) old.items) old new
Keeps (SetType key kind_name) old new = KeepsAllButTypes (type_for (entry_asked key (entries_of old)) kind_name) old new × KeepsMacros old new × KeepsCitations old new
Keeps other old new = Unit {0}

-- it holds of what the two files say
abbrev pub OfReadings : Text → Text → (Reading → Reading → Type 0) → Type 0
OfReadings old new P = OfReading old (λ db. OfReading new (λ db'. P db db'))

-- An accepted renaming keeps every record, and so does another type, but for that type.
abbrev pub edit_keeps : Type 0
edit_keeps = (edit : Edit) (old new : SessionState) → MakesEdit edit old new → OfReadings old.steps.present new.steps.present (Keeps edit)

-- ---- making keys again

-- Once keys were made, no reason is against making them again at the same depth, and the file stays as it is.
pub record MakesNothingAgain (depth : ℕ) (state : SessionState) : Type 0 where
  pub allowed : (fault : EditFault) → RefusesEdit (Refused fault) (RegenerateKeys depth) state → ⊥
  pub file : (again : SessionState) → MakesEdit (RegenerateKeys depth) state again → again.steps.present ≡ state.steps.present

-- once the keys were made, the same request has no reason against it and changes nothing
abbrev pub keys_are_made_once : Type 0
keys_are_made_once = (depth : ℕ) (old new : SessionState) → IsSound old.steps → MakesEdit (RegenerateKeys depth) old new → MakesNothingAgain depth new

-- Once keys were made, the file has the made keys of the file before, at that depth: those that `newkeys` prints for it.
abbrev pub newkeys_are_those_of_regenerate : Type 0
newkeys_are_those_of_regenerate = (depth : ℕ) (old new : SessionState) → MakesEdit (RegenerateKeys depth) old new →
    OfReadings old.steps.present new.steps.present (λ db db'. keys_of (entries_of db') ≡ new_keys made_base depth (entries_of db))

-- ---- many renamings

-- the request renames a key or a macro, makes all keys again, writes a macro's text for its uses, gives a text a name, or removes
-- a definition that nothing uses; or it begins or ends a step of such edits
abbrev pub is_renaming : Request → Bool
is_renaming (request.Edit (RenameKey from to)) = true
is_renaming (request.Edit (RegenerateKeys depth)) = true
is_renaming (request.Edit (RenameMacro from to)) = true
is_renaming (request.Edit (InlineMacro name)) = true
is_renaming (request.Edit (IntroduceMacro name text)) = true
is_renaming (request.Edit (UndefineMacro name)) = true
is_renaming (request.Begin label) = true
is_renaming request.End = true
is_renaming other = false

-- the record without its key
abbrev pub without_key : Record → Record
without_key r = record r { key = [] }

-- Each entry's type and fields at every depth, each parent and each preamble are what they were.
pub record KeepsTexts (old new : Reading) : Type 0 where
  pub count : length (entries_of new) ≡ length (entries_of old)
  pub records : (depth n : ℕ) → option_map without_key (expanded depth (entries_of new) n) ≡ option_map without_key (expanded depth (entries_of old) n)
  pub parents : (n : ℕ) → parent (entries_of new) n ≡ parent (entries_of old) n
  pub preambles : preambles_of new ≡ preambles_of old

-- However many renamings are requested, one after another and up to the first that is refused, every record is kept except
-- its key.
abbrev pub requests_keep : Type 0
requests_keep = (requests : List Request) (done : ℕ) (fault : Option SessionFault) (old new : SessionState) → list_all is_renaming requests ≡ true →
    Performs requests done fault old new → OfReadings old.steps.present new.steps.present KeepsTexts
