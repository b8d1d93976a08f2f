-- `entry`: entries as they stand in the file. (dialect)
use Rattle.std.specs.Prelude.{ℕ, Bool, List, [], ◌++◌, Option, if◌then◌else◌, filter_map, slice_get, codes}
use Rattle.std.specs.Fmt.{decimal}
use Rattle.std.specs.List.{flat_map}
use Rattle.std.specs.Option.{option_map_or}
use Rattle.bib_spec.specs.Text.{Text}
use Rattle.bib_spec.specs.Tree.{tree_bytes}
use Rattle.bib_spec.specs.Reading.{Item, Reading, bytes_of}
use Rattle.bib_spec.specs.Records.{EntryTexts, entries_of, entry_named, numbers_of, cites_all, unknown}
use Rattle.bib_scan.specs.Layout.{start_of}
use Rattle.bib_store.specs.Readings.{entry_numbers}
use Rattle.bib_answers.specs.declared.answers.Answer.{Answer}
use Rattle.bib_answers.specs.declared.positions.Position.{Position}
use Rattle.bib_answers.specs.Cited.{unless_any}
use Rattle.bib_answers.specs.Messages.{no_such_entry_line}
use Rattle.bib_answers.specs.Outcome.{answer_of}
use Rattle.bib_answers.specs.Positions.{position_of}

-- ---- which entries

-- the entries that the keys name, in the order of the keys, and as often as they are named; the one key `*` names all
abbrev pub named_by : List EntryTexts → List Text → List ℕ
named_by entries keys = if cites_all keys then numbers_of entries else filter_map (entry_named entries) keys

-- the same, or nothing if a key names none
abbrev pub all_named : List EntryTexts → List Text → Option (List ℕ)
all_named entries keys = unless_any (unknown entries keys) (named_by entries keys)

-- ---- how each stands in the file

-- where item m begins in the file
abbrev pub place_of : Reading → ℕ → Position
place_of db m = position_of (bytes_of db) (start_of db m)

-- the number of an item, counted from 0, its line and its column, with a tab between each two, a line
abbrev pub place_line : ℕ → Position → Text
place_line m at = decimal m ++ (codes "\t" ++ (decimal at.line ++ (codes "\t" ++ (decimal at.column ++ codes "\n"))))

-- a text and the end of its line
abbrev pub ended : Text → Text
ended text = text ++ codes "\n"

-- item m from its at-sign to its closing delimiter, and a line's end
abbrev pub item_text : Reading → ℕ → Text
item_text db m = option_map_or (λ (item : Item). ended (tree_bytes item.tree)) (slice_get db.items m) []

-- item m, after the line with its place if that is asked for
abbrev pub standing : Bool → Reading → ℕ → Text
standing at db m = if at then place_line m (place_of db m) ++ item_text db m else item_text db m

-- entry n as it stands in the file
abbrev pub entry_text : Bool → Reading → ℕ → Text
entry_text at db n = option_map_or (standing at db) (slice_get (entry_numbers db.items) n) []

-- `entry F KEY..`: the entries that the keys name, as they stand; or that a key names none
abbrev pub entry_answer : Bool → List Text → Reading → Answer
entry_answer at keys db =
    option_map_or (λ list. answer_of (flat_map (entry_text at db) list) [] 0) (all_named (entries_of db) keys) (answer_of [] no_such_entry_line 1)
