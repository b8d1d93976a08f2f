-- The entries that a RIS text adds to a file, and their keys. (dialect)
use Rattle.std.specs.Prelude.{ℕ, ◌≡◌, ◌≢◌, Bool, true, false, if◌then◌else◌, List, [], ◌∷◌, map, filter}
use Rattle.std.specs.List.{list_all}
use Rattle.bib_spec.specs.Text.{Text, is_new_key}
use Rattle.bib_spec.specs.Reading.{Reading}
use Rattle.bib_spec.specs.Records.{Record}
use Rattle.bib_spec.specs.MadeKeys.{free_key}
use Rattle.bib_data.specs.declared.edit.NewEntry.{NewEntry}
use Rattle.bib_store.specs.Readings.{OfReading}
use Rattle.bib_keys.specs.MadeBase.{made_base}
use Rattle.bib_keys.specs.TakenKeys.{taken_in}
use Rattle.ris_text.specs.declared.records.RisRecord.{RisRecord}
use Rattle.ris_text.specs.declared.records.RisFile.{RisFile}
use Rattle.ris_text.specs.declared.fault.RisFault.TheVariants as text_fault
use Rattle.ris_text.specs.Lines.{Line}
use Rattle.ris_text.specs.Reading.{Reads, IsFaultOf}
use Rattle.ris_text.specs.Skipped.{AreSkipped}
use Rattle.ris_format.specs.Escapes.{back_as}
use Rattle.ris_format.specs.Entry.{entry_of, are_balanced}
use Rattle.bib_ris.specs.declared.fault.ImportFault.{ImportFault}
use Rattle.bib_ris.specs.declared.fault.ImportFault.TheVariants.{Unread, UnbalancedText, SkippedLine, Memory}
use Rattle.bib_ris.specs.declared.importing.Additions.{Additions}

-- ---- keys

-- the IDs that an edit may write as keys
abbrev pub usable_ids : List Record → List Text
usable_ids records = filter is_new_key (map (λ r. r.key) records)

-- the record with this key in place of its own
abbrev pub with_key : Record → Text → Record
with_key r key = record r { key = key }

-- The records with their keys. A record whose ID can be a key keeps it. Each other record gets, in turn, the first candidate of
-- its base that is not taken, and this key is taken too from then on.
abbrev pub keyed : List Text → List Record → List Record
keyed taken [] = []
keyed taken (r ∷ records) =
    if is_new_key r.key then r ∷ keyed taken records
    else with_key r (free_key taken (made_base r)) ∷ keyed (free_key taken (made_base r) ∷ taken) records

-- ---- entries

-- the records as entries for this file: no made key is a key of the file, the text of a dangling crossref, or an ID that
-- can be a key, whichever record has it
abbrev pub imported : Reading → List Record → List NewEntry
imported db records = map entry_of (keyed (taken_in db (usable_ids records)) records)

-- the records that these RIS records say, as they are or as LaTeX prints them
abbrev pub records_of : Bool → List RisRecord → List Record
records_of latex records = map (back_as latex) records

-- what a RIS text adds to a file: the text says records whose texts are balanced, and these are their entries; if `strict`, no line
-- of the text is skipped
pub record AreAdditions (latex strict : Bool) (file text : Text) (a : Additions) : Type 0 where
  pub said : RisFile
  pub reads : Reads text said
  pub balanced : list_all are_balanced (records_of latex said.records) ≡ true
  pub entries : OfReading file (λ db. a.entries ≡ imported db (records_of latex said.records))
  pub skipped : a.skipped ≡ said.skipped
  pub whole : strict ≡ true → a.skipped ≡ 0

-- the text says records, and a text of one is not balanced
pub record HasUnbalanced (latex : Bool) (text : Text) : Type 0 where
  pub said : RisFile
  pub reads : Reads text said
  pub unbalanced : list_all are_balanced (records_of latex said.records) ≡ false

-- the text says records whose texts are balanced, and the first of its lines that are skipped begins at this place
pub record HasSkipped (latex : Bool) (text : Text) (place : ℕ) : Type 0 where
  pub said : RisFile
  pub reads : Reads text said
  pub balanced : list_all are_balanced (records_of latex said.records) ≡ true
  pub first : Line
  pub others : List Line
  pub skipped : AreSkipped text (first ∷ others)
  pub begins : first.place ≡ place

-- why a text gives no entries: it is not read; or else a text of a record is not balanced; or else, if `strict`, a line is skipped; or
-- memory was refused
abbrev pub RefusesImport : Bool → Bool → ImportFault → Text → Type 0
RefusesImport latex strict Memory text = Unit {0}
RefusesImport latex strict (Unread fault) text = (fault ≢ text_fault.Memory) × IsFaultOf text fault
RefusesImport latex strict UnbalancedText text = HasUnbalanced latex text
RefusesImport latex strict (SkippedLine place) text = (strict ≡ true) × HasSkipped latex text place
