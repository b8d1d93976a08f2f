-- Labels of listed entries, and their lines.
use Rattle.std.proofs.Common.{◌≡◌, ◌∙◌, ℕ, ◌+◌, ◌<◌, ◌≤◌, List, ◌++◌, length, take, get_or, map, zip, min, Result, sym, ap, arith}
use Rattle.std.specs.List.{flat_map}
use Rattle.std.proofs.lemmas.List.{get_or-map, length-map}
use Rattle.bib_spec.specs.Text.{Text}
use Rattle.bib_spec.specs.Records.{EntryTexts, Record}
use Rattle.bib_store.specs.Choosing.{with_chosen}
use Rattle.bib_names.specs.declared.fault.NameFault.{NameFault}
use Rattle.bibtex_spec.specs.Listed.{ListedRecord}
use Rattle.bibtex_spec.specs.ListLaws.{bare}
use Rattle.bibtex_lists.specs.Records.{record_as_listed}
use Rattle.bibtex_labels.specs.Fields.{map_ok}
use Rattle.bibtex_labels.specs.Label.{label_names, labelled, all_labelled}
use Rattle.bibtex_labels.specs.Order.{in_order}
use Rattle.bibtex_labels.proofs.LabelFields.{labelled_kept}
use Rattle.bibtex_labels.specs.declared.ordering.Labelled.{Labelled}
use Rattle.bibtex_places.specs.declared.lists.BibtexEntry.{BibtexEntry}
use Rattle.bib_answers.specs.declared.answers.Answer.{Answer}
use Rattle.bib_answers.specs.Labels.{keyed_line}
use Rattle.bib_answers.specs.Names.{lines_answer}
use Rattle.bib_answers.proofs.LabelLines.{label_more, labels_all}
use Rattle.bibtex_answers.specs.Entries.{HaveRecords}
use Rattle.bibtex_answers.specs.Labels.{ordered_lines, labels_told}
use Rattle.bibtex_answers.proofs.ListedRecords.{records_made}

-- the keys of entries
abbrev pub keys_of : List Labelled → List Text
keys_of entries = map (λ (entry : Labelled). entry.key) entries

-- one more line
pub line_more : (labels : List Text) (entries : List Labelled) (n : ℕ) (label : Text) (entry : Labelled) → n < min (length labels) (length entries) → label ≡ get_or labels n label → entry ≡ get_or entries n entry
    → flat_map keyed_line (take n (zip labels (keys_of entries))) ++ keyed_line (label, entry.key) ≡ flat_map keyed_line (take (n + 1) (zip labels (keys_of entries)))
line_more labels entries n label entry within is also =
    let inside : n < length entries = omega (arith, within) in
    label_more labels (keys_of entries) n label entry.key (omega (arith, within, length-map entries (λ (e : Labelled). e.key))) is
    (ap (λ (e : Labelled). e.key) also ∙ sym (get_or-map (λ (e : Labelled). e.key) entries n _ _ inside))

-- all lines
pub lines_all : (labels : List Text) (entries : List Labelled) (n : ℕ) → min (length labels) (length entries) ≤ n → take n (zip labels (keys_of entries)) ≡ zip labels (keys_of entries)
lines_all labels entries n end = labels_all labels (keys_of entries) n (omega (arith, end, length-map entries (λ (e : Labelled). e.key)))

-- what is told of listed entries is told of their records
pub told_of_records : (entries : List EntryTexts) (list : List BibtexEntry) (records : List ListedRecord) (answer : Answer) (result : Result (List Labelled) NameFault) → HaveRecords entries list records
    → all_labelled (map (record_as_listed entries) list) ≡ result → answer ≡ lines_answer (map_ok (λ (es : List Labelled). ordered_lines (in_order es)) result) → answer ≡ labels_told (map bare records)
told_of_records entries list records answer result have labelled is =
    is ∙ sym (ap (λ (r : Result (List Labelled) NameFault). lines_answer (map_ok (λ (es : List Labelled). ordered_lines (in_order es)) r)) labelled)
    ∙ ap labels_told (records_made entries list records have)

-- a record is labelled as the record of which it has those fields that labels are made of
pub labelled_as : (names : List Text) (chosen whole : Record) → names ≡ label_names → chosen ≡ with_chosen names whole → labelled chosen ≡ labelled whole
labelled_as names chosen whole are is = ap labelled (is ∙ ap (λ (list : List Text). with_chosen list whole) are) ∙ labelled_kept whole
