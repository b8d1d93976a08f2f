-- `cite --bibtex`: the keys that BibTeX lists.
use Rattle.std.specs.Prelude.{ℕ, Bool, List, [], ◌++◌, codes}
use Rattle.std.specs.List.{flat_map}
use Rattle.std.specs.Option.{option_map_or}
use Rattle.bib_spec.specs.Text.{Text}
use Rattle.bib_spec.specs.Reading.{Reading}
use Rattle.bib_spec.specs.Records.{entries_of}
use Rattle.bibtex_spec.specs.Listed.{ListedRecord}
use Rattle.bib_answers.specs.declared.answers.Answer.{Answer}
use Rattle.bib_answers.specs.Cite.{unknown_line, cite_status}
use Rattle.bib_answers.specs.Outcome.{answer_of}
use Rattle.bibtex_places.specs.Lists.{unknown_places}
use Rattle.bibtex_answers.specs.Listed.{listed_answer}

-- the key as it is spelled in the list and, after a tab, the crossref, if there is one, a line
abbrev pub listed_line : ListedRecord → Text
listed_line r = r.key ++ (option_map_or (λ text. codes "\t" ++ text) r.crossref [] ++ codes "\n")

-- a line for each record of the list, and then one for each key without an entry
abbrev pub listed_lines : List Text → List ℕ → List ListedRecord → Text
listed_lines keys unknown list = flat_map listed_line list ++ flat_map (unknown_line keys) unknown

-- `cite F KEY.. --bibtex`: the list, in which a parent that is not cited needs `least` children, and then the keys that no entry
-- has (dialect)
abbrev pub cite_answer : Bool → List Text → ℕ → Reading → Answer
cite_answer strict keys least db =
    let unknown = unknown_places (entries_of db) keys in
    listed_answer (λ list. answer_of (listed_lines keys unknown list) [] (cite_status strict unknown)) (entries_of db) keys least
