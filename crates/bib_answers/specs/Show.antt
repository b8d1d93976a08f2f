-- `show`: an entry as a style is given it.
use Rattle.std.specs.Prelude.{ℕ, List, [], ◌++◌, Option, codes}
use Rattle.std.specs.List.{flat_map}
use Rattle.std.specs.Option.{option_map_or}
use Rattle.bib_spec.specs.Text.{Text}
use Rattle.bib_spec.specs.Reading.{Reading}
use Rattle.bib_spec.specs.Records.{EntryTexts, RecordField, Record, entries_of, entry_named, crossref, parent, expanded}
use Rattle.bib_answers.specs.declared.answers.Answer.{Answer}
use Rattle.bib_answers.specs.Entries.{key_at}
use Rattle.bib_answers.specs.Messages.{no_such_entry_line}
use Rattle.bib_answers.specs.Outcome.{answer_of}

-- `@type key`, a line
abbrev pub head_line : Record → Text
head_line r = codes "@" ++ (r.kind_name ++ (codes " " ++ (r.key ++ codes "\n")))

-- `name = text`, a line
abbrev pub shown_field : RecordField → Text
shown_field field = field.0 ++ (codes " = " ++ (field.1 ++ codes "\n"))

-- an entry's type and key, and its fields
abbrev pub record_lines : Record → Text
record_lines r = head_line r ++ flat_map shown_field r.fields

-- `crossref = KEY`, a line, with the key of the parent, if there is one
abbrev pub parent_line : List EntryTexts → Option ℕ → Text
parent_line entries parent = option_map_or (λ m. shown_field (crossref, key_at entries m)) parent []

-- what `show` writes of entry n: its record at this depth, and its parent
abbrev pub shown : ℕ → List EntryTexts → ℕ → Text
shown depth entries n = option_map_or record_lines (expanded depth entries n) [] ++ parent_line entries (parent entries n)

-- `show F KEY`: the first entry with this key, at this depth (dialect)
abbrev pub show_answer : ℕ → Text → Reading → Answer
show_answer depth key db =
    option_map_or (λ n. answer_of (shown depth (entries_of db) n) [] 0) (entry_named (entries_of db) key) (answer_of [] no_such_entry_line 1)
