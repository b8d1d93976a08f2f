-- Listed entries as the code has them, and their records.
use Rattle.std.specs.Prelude.{◌≡◌, List, [], ◌++◌, Some, map, codes}
use Rattle.std.specs.Option.{option_map_or}
use Rattle.bib_spec.specs.Text.{Text}
use Rattle.bib_spec.specs.Records.{EntryTexts}
use Rattle.bibtex_spec.specs.Listed.{ListedRecord}
use Rattle.bibtex_places.specs.Lists.{record_of_listed}
use Rattle.bibtex_places.specs.declared.lists.BibtexEntry.{BibtexEntry}

-- the listed entries have these records, in order
abbrev pub HaveRecords : List EntryTexts → List BibtexEntry → List ListedRecord → Type 0
HaveRecords entries list records = map (record_of_listed entries) list ≡ map Some records

-- the listed entry has this record
abbrev pub HasRecord : List EntryTexts → BibtexEntry → ListedRecord → Type 0
HasRecord entries entry listed = record_of_listed entries entry ≡ Some listed

-- the key of a listed entry and, after a tab, the key that its crossref names, if it is listed, a line
abbrev pub entry_line : BibtexEntry → Text
entry_line entry = entry.key ++ (option_map_or (λ text. codes "\t" ++ text) entry.named [] ++ codes "\n")
