-- The commands of the program, and what each takes and reads. (dialect)
use Rattle.std.specs.Prelude.{ℕ, Bool, true, false, ◌==◌, if◌then◌else◌, Option, Some, None, bytes_eq, codes}
use Rattle.bib_spec.specs.Text.{Text}
use Rattle.bib_words.specs.declared.verbs.Question.{Question}
use Rattle.bib_words.specs.declared.verbs.Question.TheVariants.{Check, Show, Entry, Cite, Labels, Json, NewKeys, Ris, Extract}
use Rattle.bib_words.specs.declared.verbs.Verb.{Verb}
use Rattle.bib_words.specs.declared.verbs.Verb.TheVariants.{Asks, Cat, Lint, Names, Explain, Edit, Undo, Redo, Log, Forget, Import, Insert, Merge, Diff}
use Rattle.bib_words.specs.declared.verbs.Shape.{Shape}

-- the command with this name, or none if the program has no such command
abbrev pub verb_of : Text → Option Verb
verb_of name =
    if bytes_eq name (codes "cat") then Some Cat
    else if bytes_eq name (codes "check") then Some (Asks Check)
    else if bytes_eq name (codes "lint") then Some Lint
    else if bytes_eq name (codes "show") then Some (Asks Show)
    else if bytes_eq name (codes "entry") then Some (Asks Entry)
    else if bytes_eq name (codes "cite") then Some (Asks Cite)
    else if bytes_eq name (codes "labels") then Some (Asks Labels)
    else if bytes_eq name (codes "json") then Some (Asks Json)
    else if bytes_eq name (codes "names") then Some Names
    else if bytes_eq name (codes "newkeys") then Some (Asks NewKeys)
    else if bytes_eq name (codes "edit") then Some Edit
    else if bytes_eq name (codes "undo") then Some Undo
    else if bytes_eq name (codes "redo") then Some Redo
    else if bytes_eq name (codes "log") then Some Log
    else if bytes_eq name (codes "forget") then Some Forget
    else if bytes_eq name (codes "ris") then Some (Asks Ris)
    else if bytes_eq name (codes "extract") then Some (Asks Extract)
    else if bytes_eq name (codes "import") then Some Import
    else if bytes_eq name (codes "insert") then Some Insert
    else if bytes_eq name (codes "merge") then Some Merge
    else if bytes_eq name (codes "diff") then Some Diff
    else if bytes_eq name (codes "explain") then Some Explain
    else None

-- ---- what a command takes

-- one argument and nothing else: `check F`
abbrev pub alone : Shape
alone = record { least = 1; most = Some 1; number = false; depth = false; aux = false }

-- a file and a number: `undo F`
abbrev pub with_number : Shape
with_number = record alone { number = true }

-- a file, one key or more, aux files that cite more, and a depth: `labels F KEY..`
abbrev pub with_keys : Shape
with_keys = record { least = 2; most = None; number = false; depth = true; aux = true }

-- what a command takes that answers what its file says
abbrev pub question_shape : Question → Shape
question_shape Check = alone
question_shape Show = record with_keys { most = Some 2; aux = false }
question_shape Entry = record with_keys { depth = false; aux = false }
question_shape Cite = record with_keys { number = true; depth = false }
question_shape Labels = with_keys
question_shape Json = with_keys
question_shape NewKeys = record alone { depth = true }
question_shape Ris = with_keys
question_shape Extract = record with_keys { depth = false }

-- what a command takes
abbrev pub shape : Verb → Shape
shape (Asks question) = question_shape question
shape Cat = record alone { least = 0 }
shape Names = record { least = 3; most = Some 3; number = false; depth = true; aux = false }
shape Lint = record alone { most = None; aux = true }
shape Edit = record alone { most = None }
shape Insert = record alone { most = Some 2 }
shape Merge = record alone { least = 3; most = Some 3 }
shape Diff = record alone { least = 2; most = Some 2 }
shape Undo = with_number
shape Redo = with_number
shape _ = alone

-- ---- what a command reads and makes

-- the commands that add a change to a file
abbrev pub adds_change : Verb → Bool
adds_change Edit = true
adds_change Import = true
adds_change Insert = true
adds_change _ = false

-- the commands that make a new file from the old one
abbrev pub makes_file : Verb → Bool
makes_file Undo = true
makes_file Redo = true
makes_file verb = adds_change verb

-- the commands that read the journal of their file
abbrev pub reads_journal : Verb → Bool
reads_journal Log = true
reads_journal verb = makes_file verb

-- The commands that read an input as well as their file, by their number of arguments: standard input, or for `diff` the new file.
-- `edit` reads it if no words of an edit follow the file.
abbrev pub takes_input : Verb → ℕ → Bool
takes_input Edit words = words == 1
takes_input Import words = true
takes_input Insert words = true
takes_input Diff words = true
takes_input _ words = false

-- the commands that take `--print`: those that make a new file from the old one, and `merge`, which makes one of three
abbrev pub takes_print : Verb → Bool
takes_print Merge = true
takes_print verb = makes_file verb

-- the commands that take `--dropped`
abbrev pub takes_dropped : Verb → Bool
takes_dropped (Asks Ris) = true
takes_dropped _ = false

-- the commands that take `--at`
abbrev pub takes_at : Verb → Bool
takes_at (Asks Entry) = true
takes_at _ = false

-- the commands that take a script, and so `--all-or-nothing`
abbrev pub takes_scripts : Verb → Bool
takes_scripts Edit = true
takes_scripts _ = false

-- the commands that take `--strict`
abbrev pub takes_strict : Verb → Bool
takes_strict (Asks Cite) = true
takes_strict Import = true
takes_strict _ = false

-- the commands that take `--latex`
abbrev pub takes_latex : Verb → Bool
takes_latex Import = true
takes_latex _ = false

-- the commands that take `--raw`
abbrev pub takes_raw : Verb → Bool
takes_raw (Asks Json) = true
takes_raw _ = false

-- the commands that take `--skipped`
abbrev pub takes_skipped : Verb → Bool
takes_skipped Import = true
takes_skipped _ = false

-- the commands that take `--plain`
abbrev pub takes_plain : Verb → Bool
takes_plain (Asks Ris) = true
takes_plain _ = false

-- the commands that take `--bibtex`
abbrev pub takes_bibtex : Verb → Bool
takes_bibtex (Asks Show) = true
takes_bibtex (Asks Cite) = true
takes_bibtex (Asks Json) = true
takes_bibtex (Asks Labels) = true
takes_bibtex (Asks Ris) = true
takes_bibtex Names = true
takes_bibtex _ = false

-- the commands that read other files too, before and after their own
abbrev pub takes_others : Verb → Bool
takes_others (Asks Entry) = false
takes_others (Asks question) = true
takes_others Lint = true
takes_others Names = true
takes_others verb = false
