-- `labels`: short names for the entries that keys cite. (dialect)
use Rattle.std.specs.Prelude.{ℕ, ◌≡◌, List, ◌++◌, map, filter_map, zip, codes}
use Rattle.std.specs.List.{flat_map}
use Rattle.bib_spec.specs.Text.{Text}
use Rattle.bib_spec.specs.Reading.{Reading}
use Rattle.bib_spec.specs.Records.{EntryTexts, Record, expanded}
use Rattle.bib_names.specs.Label.{label_base, labels_of}
use Rattle.bib_answers.specs.declared.answers.Answer.{Answer}
use Rattle.bib_answers.specs.Cited.{cited_answer}

-- the records of the entries with these numbers, at this depth
abbrev pub records_at : ℕ → List EntryTexts → List ℕ → List Record
records_at depth entries list = filter_map (expanded depth entries) list

-- a label, a tab, and the key of its record, a line
abbrev pub label_line : Text × Record → Text
label_line labelled = labelled.0 ++ (codes "\t" ++ (labelled.1.key ++ codes "\n"))

-- the records with their labels
abbrev pub labelled : List Record → List (Text × Record)
labelled records = zip (labels_of (map (λ r. label_base r.fields) records)) records

-- a line for each of these entries, with its label and its key
abbrev pub label_lines : ℕ → List EntryTexts → List ℕ → Text
label_lines depth entries list = flat_map label_line (labelled (records_at depth entries list))

-- `labels F KEY..`: the labels of the entries that the keys cite, of their records at this depth, each with its key
abbrev pub labels_answer : ℕ → List Text → Reading → Answer
labels_answer depth = cited_answer (label_lines depth)

-- ---- what is kept of the records

-- a label, a tab, and a key, a line
abbrev pub keyed_line : Text × Text → Text
keyed_line labelled = labelled.0 ++ (codes "\t" ++ (labelled.1 ++ codes "\n"))

-- the label bases of these records, and their keys
pub record AreLabelRows (records : List Record) (bases keys : List Text) : Type 0 where
  pub bases_are : bases ≡ map (λ r. label_base r.fields) records
  pub keys_are : keys ≡ map (λ r. r.key) records
