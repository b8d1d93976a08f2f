-- What a session keeps of the entries that an edit is not asked about, when entries come and go. (dialect)
use Rattle.std.specs.Prelude.{ℕ, ◌≡◌, false, List, [], ◌∷◌, Some, length, map}
use Rattle.std.specs.List.{list_any}
use Rattle.bib_spec.specs.Text.{Text}
use Rattle.bib_spec.specs.Reading.{Reading}
use Rattle.bib_spec.specs.Records.{entries_of}
use Rattle.edit_spec.specs.OtherLaws.{number_with_one_more, entries_before, KeepsOthers, is_awaited, same_number}
use Rattle.bib_data.specs.declared.edit.Edit.{Edit}
use Rattle.bib_data.specs.declared.edit.Edit.TheVariants.{AddEntry, AddMany, RemoveEntry}
use Rattle.bib_edit.specs.Asking.{entry_asked}
use Rattle.bib_journal.specs.OpenSteps.{SessionState}
use Rattle.bib_journal.specs.Session.{MakesEdit}
use Rattle.bib_journal.specs.Renaming.{OfReadings}

-- no dangling crossref waits for one of the keys
abbrev pub NoneWaits : Reading → List Text → Type 0
NoneWaits db keys = list_any (is_awaited db) keys ≡ false

-- What an edit keeps that adds entries, or removes one: each other entry's record, at every depth, and its parent, and each
-- preamble. Entries that are added after all others leave each its number. No dangling crossref may wait for an added key.
-- Of other edits nothing is said here.
abbrev pub KeepsOtherEntries : Edit → Reading → Reading → Type 0
KeepsOtherEntries (AddEntry position entry) old new = NoneWaits old (entry.key ∷ []) → KeepsOthers (number_with_one_more (entries_before position old)) 1 old new
KeepsOtherEntries (AddMany entries) old new = NoneWaits old (map (λ entry. entry.key) entries) → KeepsOthers same_number (length entries) old new
KeepsOtherEntries (RemoveEntry key) old new = (i : ℕ) × (entry_asked key (entries_of old) ≡ Some i) × KeepsOthers (number_with_one_more i) 1 new old
KeepsOtherEntries other old new = Unit {0}

-- An accepted edit keeps the entries that it is not asked about.
abbrev pub others_are_kept : Type 0
others_are_kept = (edit : Edit) (old new : SessionState) → MakesEdit edit old new → OfReadings old.steps.present new.steps.present (KeepsOtherEntries edit)
