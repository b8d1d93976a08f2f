-- `show --bibtex`: an entry as BibTeX gives it to a style.
use Rattle.std.specs.Prelude.{List, [], ◌∷◌, ◌++◌, Option, if◌then◌else◌}
use Rattle.std.specs.Option.{option_map_or}
use Rattle.bib_spec.specs.Text.{Text}
use Rattle.bib_spec.specs.Reading.{Reading}
use Rattle.bib_spec.specs.Records.{entries_of, crossref}
use Rattle.bibtex_spec.specs.Places.{is_star}
use Rattle.bibtex_spec.specs.Listed.{ListedRecord}
use Rattle.bibtex_spec.specs.ListLaws.{bare}
use Rattle.bib_answers.specs.declared.answers.Answer.{Answer}
use Rattle.bib_answers.specs.Messages.{no_such_entry_line}
use Rattle.bib_answers.specs.Outcome.{answer_of}
use Rattle.bib_answers.specs.Show.{shown_field, record_lines}
use Rattle.bibtex_answers.specs.Listed.{listed_answer}

-- `crossref = KEY`, a line, if there is a key
abbrev pub crossref_line : Option Text → Text
crossref_line key = option_map_or (λ text. shown_field (crossref, text)) key []

-- a record and its crossref
abbrev pub shown_record : ListedRecord → Text
shown_record r = record_lines (bare r) ++ crossref_line r.crossref

-- the first record of a list, or that there is none
abbrev pub first_shown : List ListedRecord → Answer
first_shown [] = answer_of [] no_such_entry_line 1
first_shown (r ∷ rs) = answer_of (shown_record r) [] 0

-- `show F KEY --bibtex`: the record of the key if it alone is cited, with its crossref wherever the parent is found. `*` is no
-- entry's key. (dialect)
abbrev pub show_answer : Text → Reading → Answer
show_answer key db =
    if is_star key then answer_of [] no_such_entry_line 1 else listed_answer first_shown (entries_of db) (key ∷ []) 1
