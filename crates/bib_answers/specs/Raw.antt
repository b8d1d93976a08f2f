-- `json --raw`: entries with their fields as they are written, a line each. (dialect)
use Rattle.std.specs.Prelude.{◌≡◌, ℕ, ◌==◌, Bool, ◌||◌, not, List, [], ◌∷◌, ◌++◌, length, Option, None, Some, is_some, if◌then◌else◌, filter, filter_map, map, option_map, option_and_then, slice_get}
use Rattle.std.specs.List.{flat_map, list_any, range_with_len}
use Rattle.std.specs.Option.{option_map_or}
use Rattle.bib_spec.specs.Text.{Text, folded, same}
use Rattle.bib_spec.specs.Reading.{Item, Reading}
use Rattle.bib_spec.specs.Records.{entries_of, parent, crossref}
use Rattle.bib_spec.specs.Lineages.{lineage}
use Rattle.bib_scan.specs.Layout.{start_of}
use Rattle.bib_scan.specs.View.{Field, fields_of, head_of, key_of}
use Rattle.bib_shelf.specs.Joined.{located_in}
use Rattle.bib_store.specs.Readings.{entry_items, entry_numbers}
use Rattle.folded_map.specs.FoldedMap.{value_at}
use Rattle.entry_json.specs.RawJson.{Written, WrittenEntry, raw_line, is_raw_utf8, written_seen}
use Rattle.entry_json.specs.declared.raw.Standing.{Standing}
use Rattle.entry_json.specs.declared.raw.WrittenField.{WrittenField}
use Rattle.bib_answers.specs.declared.answers.Answer.{Answer}
use Rattle.bib_answers.specs.declared.positions.Position.{Position}
use Rattle.bib_answers.specs.Cited.{all_cited}
use Rattle.bib_answers.specs.Entries.{key_at}
use Rattle.bib_answers.specs.Entry.{place_of}
use Rattle.bib_answers.specs.Json.{file_of, lines_answer, records_answer_in}
use Rattle.bib_answers.specs.Lint.{place_at}
use Rattle.bib_answers.specs.Messages.{no_such_entry_line}
use Rattle.bib_answers.specs.NamedFiles.{NamedFiles}
use Rattle.bib_answers.specs.Outcome.{answer_of}

-- ---- fields

-- a field as it is written, inherited from the entry with this key, if one is given
abbrev pub written_from : Option Text → Field → Written
written_from from field = record { name = field.name; value = field.value; from = from }

-- the fields of an item as they are written
abbrev pub item_written : Option Text → Item → List Written
item_written from item = map (written_from from) (fields_of item.tree)

-- the fields of entry n as they are written
abbrev pub entry_written : Option Text → Reading → ℕ → List Written
entry_written from db n = option_map_or (item_written from) (slice_get (entry_items db.items) n) []

-- what another entry inherits from entry m
abbrev pub given_by : Reading → ℕ → List Written
given_by db m = entry_written (Some (key_at (entries_of db) m)) db m

-- the fields of entry n, and then those of the entries from which it inherits at this depth, nearest first; an entry that comes again
-- gives no name that is new
abbrev pub all_written : ℕ → Reading → ℕ → List Written
all_written depth db n = entry_written None db n ++ flat_map (given_by db) (lineage (parent (entries_of db)) depth n)

-- the first field of each name
abbrev pub first_of_each : List Written → List Written
first_of_each [] = []
first_of_each (field ∷ fields) = field ∷ filter (λ other. not (same other.name field.name)) (first_of_each fields)

-- the first field of each name, without `crossref`: these count
abbrev pub counted : List Written → List Written
counted fields = filter (λ field. not (same field.name crossref)) (first_of_each fields)

-- ---- where an entry stands

-- the number of the file in which item m begins, if these files were read as one
abbrev pub file_at : List Text → Reading → ℕ → ℕ
file_at files db m = (located_in files (start_of db m)).0

-- how many items before item m begin in the same file
abbrev pub number_in_file : List Text → Reading → ℕ → ℕ
number_in_file files db m = length (filter (λ k. file_at files db k == file_at files db m) (range_with_len 0 m))

-- an item with this number, which begins at this position
abbrev pub standing : ℕ → Position → Standing
standing item at = record { item = item; line = at.line; column = at.column }

-- where item m stands: its number, its line and its column; if files were read as one, those that it has in its file
abbrev pub standing_of : Option NamedFiles → Reading → ℕ → Standing
standing_of None db m = standing m (place_of db m)
standing_of (Some f) db m = standing (number_in_file f.files db m) (place_at f.files (start_of db m))

-- ---- entries

-- entry n, which is item m, as it is written, with its fields at this depth
abbrev pub written_entry : ℕ → Option NamedFiles → Reading → ℕ → ℕ → Item → WrittenEntry
written_entry depth files db n m item = record {
  kind = (head_of item.tree).type_name;
  key = key_of item.tree;
  parent = option_map (key_at (entries_of db)) (parent (entries_of db) n);
  fields = counted (all_written depth db n);
  standing = standing_of files db m;
}

-- an entry as it is written, and the name of its file if it is told
abbrev pub RawIn : Type 0
RawIn = WrittenEntry × Option Text

-- what is told of entry n, which is item m
abbrev pub raw_item : ℕ → Option NamedFiles → Reading → ℕ → ℕ → Option RawIn
raw_item depth files db n m = option_map (λ item. (written_entry depth files db n m item, file_of files db n)) (slice_get db.items m)

-- what is told of entry n
abbrev pub raw_in : ℕ → Option NamedFiles → Reading → ℕ → Option RawIn
raw_in depth files db n = option_and_then (raw_item depth files db n) (slice_get (entry_numbers db.items) n)

-- the key of an entry, its line, and whether its texts are UTF-8
abbrev pub raw_in_key : RawIn → Text
raw_in_key one = one.0.key

abbrev pub raw_in_line : RawIn → Text
raw_in_line one = raw_line one.0 one.1

abbrev pub is_raw_in_utf8 : RawIn → Bool
is_raw_in_utf8 one = is_raw_utf8 one.0 one.1

-- a line for each of the entries with these numbers, or the key of the first with a text that is not UTF-8
abbrev pub raw_lines_answer : Option NamedFiles → ℕ → List ℕ → Reading → Answer
raw_lines_answer files depth list db = lines_answer is_raw_in_utf8 raw_in_key raw_in_line (filter_map (raw_in depth files db) list)

-- `json --raw`: the entries that the keys cite, as they are written, each with the name of its file if files were read as one; or that
-- a key finds none
abbrev pub raw_answer_in : Option NamedFiles → ℕ → List Text → Reading → Answer
raw_answer_in files depth keys db =
    option_map_or (λ list. raw_lines_answer files depth list db) (all_cited (entries_of db) keys) (answer_of [] no_such_entry_line 1)

-- `json`, with `--raw` or without, over a file, or over files that were read as one
abbrev pub json_answer_in : Bool → Option NamedFiles → ℕ → List Text → Reading → Answer
json_answer_in raw files depth keys db = if raw then raw_answer_in files depth keys db else records_answer_in files depth keys db

-- `json F KEY..`, with `--raw` or without
abbrev pub json_answer : Bool → ℕ → List Text → Reading → Answer
json_answer raw = json_answer_in raw None

-- ---- fields as the code gathers them

-- the table has the names of these fields, and `crossref`
abbrev pub AreTaken : List (Text × Unit {0}) → List Written → Type 0
AreTaken names fields = (name : Text) → is_some (value_at names (folded name)) ≡ (same name crossref || list_any (λ field. same name field.name) fields)

-- of the fields that were seen, those that count are gathered, and the names of all are taken
pub record AreGathered (seen : List Written) (names : List (Text × Unit {0})) (gathered : List WrittenField) : Type 0 where
  pub taken : AreTaken names seen
  pub fields : map written_seen gathered ≡ counted seen
