-- `names --bibtex`: the names of an entry, as BibTeX takes them apart and prints them.
use Rattle.std.specs.Prelude.{List, [], ◌∷◌, ◌++◌, Result, Ok, Err, codes, if◌then◌else◌}
use Rattle.bib_spec.specs.Text.{Text}
use Rattle.bib_spec.specs.Reading.{Reading}
use Rattle.bib_spec.specs.Records.{entries_of}
use Rattle.bib_names.specs.Label.{Fields}
use Rattle.bib_names.specs.declared.fault.NameFault.{NameFault}
use Rattle.bibtex_names.specs.Template.{Pattern}
use Rattle.bibtex_names.specs.NamesInLists.{printed_as_bibtex, template_in}
use Rattle.bibtex_spec.specs.Places.{is_star}
use Rattle.bibtex_spec.specs.Listed.{ListedRecord}
use Rattle.bib_answers.specs.declared.answers.Answer.{Answer}
use Rattle.bib_answers.specs.Messages.{no_such_entry_line}
use Rattle.bib_answers.specs.Names.{persons, joined_lines, lines_answer}
use Rattle.bib_answers.specs.Outcome.{answer_of}
use Rattle.bibtex_answers.specs.Listed.{listed_answer}

-- ---- lines

-- the print of a name, a line; or why there is none
abbrev pub line_of : Result Text NameFault → Result Text NameFault
line_of (Ok text) = Ok (text ++ codes "\n")
line_of (Err fault) = Err fault

-- the prints of names, a line each; or why the first refused name is refused
abbrev pub name_lines : Pattern → List Text → Result Text NameFault
name_lines t [] = Ok []
name_lines t (name ∷ names) = joined_lines (line_of (printed_as_bibtex t name)) (name_lines t names)

-- a line for each name of a list, or why there is no list
abbrev pub lines_of : Pattern → Result (List Text) NameFault → Result Text NameFault
lines_of t (Ok names) = name_lines t names
lines_of t (Err fault) = Err fault

-- a line for each author, or else for each editor, by a template; or why there is no template
abbrev pub lines_by : Result Pattern NameFault → Fields → Result Text NameFault
lines_by (Ok t) fields = lines_of t (persons fields)
lines_by (Err fault) fields = Err fault

-- ---- answers

-- the names of the first record of a list, or that there is none
abbrev pub first_names : Text → List ListedRecord → Answer
first_names template [] = answer_of [] no_such_entry_line 1
first_names template (r ∷ rs) = lines_answer (lines_by (template_in template) r.fields)

-- `names F KEY TEMPLATE --bibtex`: the names of the record that `show` has for the key, printed by the template, a line each; or, with
-- nothing written, why not: no entry has the key, or else BibTeX complains of the template, or else a list of names does not balance,
-- or else a name has no word before its first comma. `*` is no entry's key. (dialect)
abbrev pub names_answer : Text → Text → Reading → Answer
names_answer key template db =
    if is_star key then answer_of [] no_such_entry_line 1 else listed_answer (first_names template) (entries_of db) (key ∷ []) 1
