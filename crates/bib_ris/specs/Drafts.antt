-- Records as entries, before keys are made for those that need one.
use Rattle.std.specs.Prelude.{ℕ, Bool, ◌≡◌, ◌≤◌, true, not, if◌then◌else◌, List, [], ◌∷◌, length, map, filter}
use Rattle.std.specs.List.{list_all, AllByRecursion}
use Rattle.bib_spec.specs.Text.{Text, is_new_key}
use Rattle.bib_spec.specs.Records.{Record}
use Rattle.bib_spec.specs.MadeKeys.{base_limit}
use Rattle.bib_data.specs.declared.edit.NewEntry.{NewEntry}
use Rattle.bib_keys.specs.MadeBase.{made_base}
use Rattle.ris_format.specs.Entry.{entry_of, are_balanced}
use Rattle.ris_text.specs.declared.records.RisFile.{RisFile}
use Rattle.ris_text.specs.Reading.{Reads}
use Rattle.bib_ris.specs.declared.drafts.Drafts.{Drafts}
use Rattle.bib_ris.specs.Import.{records_of}

-- the bases of the keys that are made for records whose ID cannot be a key
abbrev pub bases_of : List Record → List Text
bases_of records = map made_base (filter (λ r. not (is_new_key r.key)) records)

-- the drafts of these records; each text of the records is balanced
pub record AreDraftsOf (records : List Record) (d : Drafts) : Type 0 where
  pub entries : d.entries.items ≡ map entry_of records
  pub bases : d.bases.items ≡ bases_of records
  pub short : AllByRecursion (λ base. length base ≤ base_limit) d.bases.items
  pub balanced : list_all are_balanced records ≡ true

-- the drafts of the records that the text says, and how many of its lines are skipped
pub record AreSaidBy (latex : Bool) (text : Text) (d : Drafts) (count : ℕ) : Type 0 where
  pub said : RisFile
  pub reads : Reads text said
  pub drafts : AreDraftsOf (records_of latex said.records) d
  pub skipped : count ≡ said.skipped

-- the keys of entries that an edit may write
abbrev pub usable_keys : List NewEntry → List Text
usable_keys entries = filter is_new_key (map (λ e. e.key) entries)

-- the entries, where those that need a key get these keys in turn
abbrev pub with_keys : List Text → List NewEntry → List NewEntry
with_keys [] entries = entries
with_keys (key ∷ keys) [] = []
with_keys (key ∷ keys) (entry ∷ entries) =
    if is_new_key entry.key then entry ∷ with_keys (key ∷ keys) entries
    else record entry { key = key } ∷ with_keys keys entries
