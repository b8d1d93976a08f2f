-- The records that BibTeX lists can be written as RIS.
use Rattle.std.specs.Prelude.{ℕ, ◌≡◌, true, List}
use Rattle.std.specs.List.{AllByRecursion}
use Rattle.bib_spec.specs.Text.{Text}
use Rattle.bib_spec.specs.Reading.{Reading, Reads}
use Rattle.bib_spec.specs.Records.{EntryTexts, entries_of}
use Rattle.bib_store.specs.Readings.{OfReading}
use Rattle.ris_text.specs.Writing.{is_well_formed}
use Rattle.ris_format.specs.Mapping.{ris}
use Rattle.bibtex_places.specs.declared.lists.BibtexEntry.{BibtexEntry}
use Rattle.bibtex_places.specs.Lists.{listed_entries}
use Rattle.bibtex_lists.specs.Records.{record_as_listed}

-- the RIS record of a listed entry is well formed
abbrev pub Fits : List EntryTexts → BibtexEntry → Type 0
Fits entries listed = is_well_formed (ris (record_as_listed entries listed)) ≡ true

-- the RIS records of these listed entries of a file are well formed
abbrev pub AreFitting : Text → List BibtexEntry → Type 0
AreFitting file list = OfReading file (λ db. AllByRecursion (Fits (entries_of db)) list)

-- the RIS records of all listed entries are well formed, whatever the keys
abbrev pub ListedRecordsFit : Type 0
ListedRecordsFit = (file : Text) (db : Reading) (keys : List Text) (least : ℕ) → Reads file db → AllByRecursion (Fits (entries_of db)) (listed_entries (entries_of db) keys least)
