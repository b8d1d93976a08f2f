-- What is told of the entries that keys cite. (dialect)
use Rattle.std.specs.Prelude.{ℕ, List, [], ◌∷◌, Option, Some, None}
use Rattle.std.specs.Option.{option_map_or}
use Rattle.bib_spec.specs.Text.{Text}
use Rattle.bib_spec.specs.Reading.{Reading}
use Rattle.bib_spec.specs.Records.{EntryTexts, entries_of, listed, unknown}
use Rattle.bib_answers.specs.declared.answers.Answer.{Answer}
use Rattle.bib_answers.specs.Messages.{no_such_entry_line}
use Rattle.bib_answers.specs.Outcome.{answer_of}

-- how many cited entries must refer to a parent before it is listed too, by default (btxdoc 2.1)
abbrev pub default_min : ℕ
default_min = 2

-- the list, or nothing if there are any places
abbrev pub unless_any : List ℕ → List ℕ → Option (List ℕ)
unless_any [] list = Some list
unless_any (place ∷ places) list = None

-- the entries that the keys cite, or nothing if a key finds no entry
abbrev pub all_cited : List EntryTexts → List Text → Option (List ℕ)
all_cited entries keys = unless_any (unknown entries keys) (listed entries keys default_min)

-- what `told` makes of the entries that the keys cite; a key that finds none is refused
abbrev pub cited_answer : (List EntryTexts → List ℕ → Text) → List Text → Reading → Answer
cited_answer told keys db =
    option_map_or (λ list. answer_of (told (entries_of db) list) [] 0) (all_cited (entries_of db) keys) (answer_of [] no_such_entry_line 1)
