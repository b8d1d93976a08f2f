-- `labels --bibtex`: labels as the style `alpha` makes them.
use Rattle.std.specs.Prelude.{List, map, zip}
use Rattle.std.specs.List.{flat_map}
use Rattle.bib_spec.specs.Text.{Text}
use Rattle.bib_spec.specs.Reading.{Reading}
use Rattle.bib_spec.specs.Records.{Record}
use Rattle.bibtex_spec.specs.ListLaws.{bare}
use Rattle.bibtex_labels.specs.Fields.{map_ok}
use Rattle.bibtex_labels.specs.Label.{all_labelled}
use Rattle.bibtex_labels.specs.Order.{in_order, lettered}
use Rattle.bibtex_labels.specs.declared.ordering.Labelled.{Labelled}
use Rattle.bib_answers.specs.declared.answers.Answer.{Answer}
use Rattle.bib_answers.specs.Labels.{keyed_line}
use Rattle.bib_answers.specs.Names.{lines_answer}
use Rattle.bibtex_answers.specs.Records.{records_answer}

-- a line for each of these entries, in their order, with its label and its key
abbrev pub ordered_lines : List Labelled → Text
ordered_lines entries = flat_map keyed_line (zip (lettered entries) (map (λ entry. entry.key) entries))

-- the labels of records, in the order of the bibliography, each with its key; or why a name of the first refused record is refused
abbrev pub labels_told : List Record → Answer
labels_told records = lines_answer (map_ok (λ entries. ordered_lines (in_order entries)) (all_labelled records))

-- `labels F KEY.. --bibtex`: the labels of the records that BibTeX lists for the keys, with the letters by which the style `alpha` tells
-- equal ones apart, in the order in which it prints the entries; or, with nothing written, why not: no entry has a key, or else a name
-- by which a record is labelled has no word before its first comma (dialect)
abbrev pub labels_answer : List Text → Reading → Answer
labels_answer = records_answer (λ list. labels_told (map bare list))
