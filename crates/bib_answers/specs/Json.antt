-- `json`: entries as values of JSON, a line each. (dialect)
use Rattle.std.specs.Prelude.{ℕ, Bool, not, List, [], ◌++◌, Option, None, Some, filter_map, find, option_map, slice_get, codes}
use Rattle.std.specs.List.{flat_map}
use Rattle.std.specs.Option.{option_map_or}
use Rattle.bib_spec.specs.Text.{Text}
use Rattle.bib_spec.specs.Reading.{Reading}
use Rattle.bib_spec.specs.Records.{EntryTexts, entries_of, parent, expanded}
use Rattle.bib_scan.specs.Layout.{start_of}
use Rattle.bib_store.specs.Readings.{entry_numbers}
use Rattle.entry_json.specs.EntryJson.{Told, json_line_in, is_told_utf8_in}
use Rattle.bib_answers.specs.declared.answers.Answer.{Answer}
use Rattle.bib_answers.specs.Cited.{all_cited}
use Rattle.bib_answers.specs.Entries.{key_at}
use Rattle.bib_answers.specs.Lint.{name_at}
use Rattle.bib_answers.specs.Messages.{no_such_entry_line}
use Rattle.bib_answers.specs.NamedFiles.{NamedFiles}
use Rattle.bib_answers.specs.Outcome.{answer_of}

-- what is told of entry n: its record at this depth, and the key of its parent
abbrev pub told_at : ℕ → List EntryTexts → ℕ → Option Told
told_at depth entries n = option_map (λ rec. (rec, option_map (key_at entries) (parent entries n))) (expanded depth entries n)

-- what is told of an entry, and the name of its file if it is told
abbrev pub ToldIn : Type 0
ToldIn = Told × Option Text

-- what is told of entry n, whose file has the name that `file` gives
abbrev pub told_in : ℕ → List EntryTexts → (ℕ → Option Text) → ℕ → Option ToldIn
told_in depth entries file n = option_map (λ told. (told, file n)) (told_at depth entries n)

-- what is told of the entries with these numbers
abbrev pub told_of : ℕ → List EntryTexts → (ℕ → Option Text) → List ℕ → List ToldIn
told_of depth entries file list = filter_map (told_in depth entries file) list

-- the line of an entry
abbrev pub told_line : ToldIn → Text
told_line one = json_line_in one.0 one.1

-- the texts of an entry are UTF-8
abbrev pub is_told_in_utf8 : ToldIn → Bool
is_told_in_utf8 one = is_told_utf8_in one.0 one.1

-- a text of the entry with this key is not UTF-8 (dialect)
abbrev pub not_utf8_line : Text → Text
not_utf8_line key = codes "bibkeep: 24 NotUtf8 in " ++ (key ++ codes "\n")

-- a line for each of these entries; or, with nothing written, the key of the first with a text that is not UTF-8
abbrev pub lines_answer : {T : Type 0} → (T → Bool) → (T → Text) → (T → Text) → List T → Answer
lines_answer is_utf8 key line told =
    option_map_or (λ one. answer_of [] (not_utf8_line (key one)) 1) (find (λ one. not (is_utf8 one)) told) (answer_of (flat_map line told) [] 0)

-- the key of an entry
abbrev pub told_key : ToldIn → Text
told_key one = one.0.0.key

-- a line for each entry; or, with nothing written, the key of the first entry with a text that is not UTF-8
abbrev pub told_answer : List ToldIn → Answer
told_answer = lines_answer is_told_in_utf8 told_key told_line

-- the name of the file in which entry n stands, if these files were read as one
abbrev pub file_of : Option NamedFiles → Reading → ℕ → Option Text
file_of None db n = None
file_of (Some f) db n = Some (option_map_or (λ i. name_at f.names f.files (start_of db i)) (slice_get (entry_numbers db.items) n) [])

-- the entries that the keys cite, with their records at this depth, each with the name of its file if files were read as one; or that
-- a key finds none
abbrev pub records_answer_in : Option NamedFiles → ℕ → List Text → Reading → Answer
records_answer_in files depth keys db =
    option_map_or (λ list. told_answer (told_of depth (entries_of db) (file_of files db) list)) (all_cited (entries_of db) keys) (answer_of [] no_such_entry_line 1)
