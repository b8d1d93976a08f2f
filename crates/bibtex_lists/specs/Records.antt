-- Records of listed entries.
use Rattle.std.specs.Prelude.{ℕ, List, [], slice_get}
use Rattle.std.specs.Option.{option_map_or}
use Rattle.bib_spec.specs.Text.{Text, folded}
use Rattle.bib_spec.specs.Records.{EntryTexts, Record, fields_at, with_inherited}
use Rattle.bibtex_places.specs.declared.lists.BibtexEntry.{BibtexEntry}

-- the type of entry n in lower case, if there is such an entry
abbrev pub kind_at : List EntryTexts → ℕ → Text
kind_at entries n = option_map_or (λ entry. folded entry.kind) (slice_get entries n) []

-- the record of a listed entry: its type in lower case, its key as listed, its own fields, and what others give
abbrev pub record_as_listed : List EntryTexts → BibtexEntry → Record
record_as_listed entries listed = record {
  kind_name = kind_at entries listed.entry;
  key = listed.key;
  fields = with_inherited entries (fields_at entries listed.entry) listed.up;
}
