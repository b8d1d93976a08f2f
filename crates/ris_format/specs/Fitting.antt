-- The records whose RIS record can be written as text: those that a database gives.
use Rattle.std.specs.Prelude.{ℕ, ◌≡◌, Bool, true, not, ◌&&◌, Some}
use Rattle.std.specs.List.{list_any, list_all}
use Rattle.std.specs.Str.{bytes_eq}
use Rattle.bib_spec.specs.Text.{Text, is_space}
use Rattle.bib_spec.specs.Reading.{Reading, Reads}
use Rattle.bib_spec.specs.Texts.{field_text}
use Rattle.bib_spec.specs.Records.{Record, RecordField, entries_of, expanded}
use Rattle.ris_text.specs.Writing.{is_well_formed}
use Rattle.ris_format.specs.Mapping.{ris}

-- the field's text is its own field text
abbrev pub has_own_text : RecordField → Bool
has_own_text f = bytes_eq (field_text f.1) f.1

-- each text is its own field text, and the key has no white space
abbrev pub is_spaced : Record → Bool
is_spaced entry = list_all has_own_text entry.fields && not (list_any is_space entry.key)

-- the RIS record of a record with such texts and such a key is well formed
abbrev pub SpacedRecordsFit : Type 0
SpacedRecordsFit = (entry : Record) → is_spaced entry ≡ true → is_well_formed (ris entry) ≡ true

-- the RIS record of each record that a database gives is well formed, whatever the depth of inherited fields
abbrev pub GivenRecordsFit : Type 0
GivenRecordsFit = (file : Text) (db : Reading) (depth n : ℕ) (entry : Record) → Reads file db → expanded depth (entries_of db) n ≡ Some entry → is_well_formed (ris entry) ≡ true
