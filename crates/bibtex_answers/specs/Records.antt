-- `json --bibtex` and `ris --bibtex`: the records that BibTeX lists.
use Rattle.std.specs.Prelude.{ℕ, List, [], ◌∷◌, None, map}
use Rattle.bib_spec.specs.Text.{Text}
use Rattle.bib_spec.specs.Reading.{Reading}
use Rattle.bib_spec.specs.Records.{entries_of}
use Rattle.bibtex_spec.specs.Listed.{ListedRecord}
use Rattle.bibtex_spec.specs.ListLaws.{bare}
use Rattle.bib_answers.specs.declared.answers.Answer.{Answer}
use Rattle.bib_answers.specs.Cited.{default_min}
use Rattle.bib_answers.specs.Json.{ToldIn, told_answer}
use Rattle.bib_answers.specs.Messages.{no_such_entry_line}
use Rattle.bib_answers.specs.Outcome.{answer_of}
use Rattle.bibtex_places.specs.Lists.{unknown_places}
use Rattle.bibtex_answers.specs.Listed.{listed_answer}

-- what `told` makes of the records, unless keys at some positions have no entry
abbrev pub unless_unknown : (List ListedRecord → Answer) → List ℕ → List ListedRecord → Answer
unless_unknown told [] list = told list
unless_unknown told (position ∷ positions) list = answer_of [] no_such_entry_line 1

-- what `told` makes of the records that BibTeX lists for the keys; a key without an entry is refused (dialect)
abbrev pub records_answer : (List ListedRecord → Answer) → List Text → Reading → Answer
records_answer told keys db =
    listed_answer (unless_unknown told (unknown_places (entries_of db) keys)) (entries_of db) keys default_min

-- a record with its crossref, in no named file
abbrev pub told_record : ListedRecord → ToldIn
told_record r = ((bare r, r.crossref), None)

-- `json F KEY.. --bibtex`: a line for each record, with its crossref as the parent; or the key of the first record with a text
-- that is not UTF-8
abbrev pub json_answer : List Text → Reading → Answer
json_answer = records_answer (λ list. told_answer (map told_record list))
