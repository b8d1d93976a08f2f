-- `names`: the names of an entry, printed by a template. (dialect)
use Rattle.std.specs.Prelude.{ℕ, ◌≡◌, List, [], ◌∷◌, ◌++◌, Option, None, Some, Result, Ok, Err, option_and_then, codes, if◌then◌else◌}
use Rattle.std.specs.Option.{option_map_or}
use Rattle.std.specs.Fmt.{decimal}
use Rattle.bib_spec.specs.Text.{Text}
use Rattle.bib_spec.specs.Reading.{Reading}
use Rattle.bib_spec.specs.Records.{Record, entries_of, entry_named, expanded}
use Rattle.bib_names.specs.Faults.{number_of}
use Rattle.bib_names.specs.NameList.{names_of}
use Rattle.bib_names.specs.Name.{parts_of}
use Rattle.bib_names.specs.Template.{Pattern, IsTemplate, spelling}
use Rattle.bib_names.specs.Printing.{printed}
use Rattle.bib_names.specs.Label.{Fields, text_in, balances}
use Rattle.bib_names.specs.declared.fault.NameFault.{NameFault}
use Rattle.bib_names.specs.declared.fault.NameFault.TheVariants.{Memory, TooManyCommas, UnbalancedName, BadTemplate}
use Rattle.bib_names.specs.declared.name.Name.{Name}
use Rattle.bib_answers.specs.declared.answers.Answer.{Answer}
use Rattle.bib_answers.specs.Messages.{no_such_entry_line}
use Rattle.bib_answers.specs.Outcome.{answer_of}
use Rattle.bib_answers.specs.Opened.{AnswersFile}

-- ---- refusals

-- the printed name of a fault in names and templates (dialect)
abbrev pub name_fault_name : NameFault → Text
name_fault_name Memory = codes "Memory"
name_fault_name TooManyCommas = codes "TooManyCommas"
name_fault_name UnbalancedName = codes "UnbalancedName"
name_fault_name BadTemplate = codes "BadTemplate"

-- `bibkeep: N Name`, a line
abbrev pub name_fault_line : NameFault → Text
name_fault_line fault = codes "bibkeep: " ++ (decimal (number_of fault) ++ (codes " " ++ (name_fault_name fault ++ codes "\n")))

-- ---- the names of a record

-- the names of a list, or that its braces do not balance
abbrev pub listed_in : Text → Result (List Text) NameFault
listed_in text = if balances text then Ok (names_of text) else Err UnbalancedName

-- the names of a list; or, if it has none, the names of another text
abbrev pub or_listed_in : Text → Result (List Text) NameFault → Result (List Text) NameFault
or_listed_in other (Ok []) = listed_in other
or_listed_in other (Ok (name ∷ names)) = Ok (name ∷ names)
or_listed_in other (Err fault) = Err fault

-- the names of the authors; or, if there is none, the names of the editors
abbrev pub persons : Fields → Result (List Text) NameFault
persons fields = or_listed_in (text_in fields (codes "editor")) (listed_in (text_in fields (codes "author")))

-- ---- their lines

-- the parts of a name, or that it has too many commas
abbrev pub given_parts : Option Name → Result Name NameFault
given_parts (Some parts) = Ok parts
given_parts None = Err TooManyCommas

-- the parts of a name, or why it is refused
abbrev pub parts_in : Text → Result Name NameFault
parts_in name = if balances name then given_parts (parts_of name) else Err UnbalancedName

-- the print of a name with these parts, a line; or why there are no parts
abbrev pub line_of : Pattern → Result Name NameFault → Result Text NameFault
line_of t (Ok parts) = Ok (printed t parts ++ codes "\n")
line_of t (Err fault) = Err fault

-- the print of a name, a line; or why the name is refused
abbrev pub name_line : Pattern → Text → Result Text NameFault
name_line t name = line_of t (parts_in name)

-- the text with the lines after it, if there are lines
abbrev pub before_lines : Text → Result Text NameFault → Result Text NameFault
before_lines text (Ok lines) = Ok (text ++ lines)
before_lines text (Err fault) = Err fault

-- a line with the lines after it; or why the line, or else why a later one, is refused
abbrev pub joined_lines : Result Text NameFault → Result Text NameFault → Result Text NameFault
joined_lines (Ok line) lines = before_lines line lines
joined_lines (Err fault) lines = Err fault

-- the prints of names, a line each; or why the first refused name is refused
abbrev pub name_lines : Pattern → List Text → Result Text NameFault
name_lines t [] = Ok []
name_lines t (name ∷ names) = joined_lines (name_line t name) (name_lines t names)

-- a line for each name of a list, or why there is no list
abbrev pub lines_of : Pattern → Result (List Text) NameFault → Result Text NameFault
lines_of t (Ok names) = name_lines t names
lines_of t (Err fault) = Err fault

-- ---- answers

-- the lines; or, with nothing written, why there are none
abbrev pub lines_answer : Result Text NameFault → Answer
lines_answer (Ok lines) = answer_of lines [] 0
lines_answer (Err fault) = answer_of [] (name_fault_line fault) 1

-- the names of a record, printed by a template; BadTemplate without one
abbrev pub record_answer : Option Pattern → Record → Answer
record_answer None r = lines_answer (Err BadTemplate)
record_answer (Some t) r = lines_answer (lines_of t (persons r.fields))

-- the names of the first entry with this key, from its record at this depth; or that no entry has the key
abbrev pub names_answer : ℕ → Text → Option Pattern → Reading → Answer
names_answer depth key pattern db =
    let entries = entries_of db in
    option_map_or (record_answer pattern) (option_and_then (expanded depth entries) (entry_named entries key)) (answer_of [] no_such_entry_line 1)

-- the template that the bytes spell, if they spell one
pub data Spells (bytes : Text) : Option Pattern → Type 0 where
  spelled : (t : Pattern) → IsTemplate t → bytes ≡ spelling t → Spells bytes (Some t)
  misspelled : ((t : Pattern) → IsTemplate t → bytes ≡ spelling t → ⊥) → Spells bytes None

-- what `names` answers to what the file says
pub record AnswersNames (depth : ℕ) (key template : Text) (db : Reading) (answer : Answer) : Type 0 where
  pub pattern : Option Pattern
  pub spells : Spells template pattern
  pub answers : answer ≡ names_answer depth key pattern db

-- `names F KEY TEMPLATE`: the names of the first entry with this key, printed by this template, a line each; or, with
-- nothing written, why not: no entry has the key, or else the bytes are no template, or else a list of names does not
-- balance, or else a name has too many commas
pub record IsNamesAnswer (depth : ℕ) (key template file : Text) (answer : Answer) : Type 0 where
  pub pattern : Option Pattern
  pub spells : Spells template pattern
  pub answers : AnswersFile (names_answer depth key pattern) file answer
