-- Labels beside their keys, one after another.
use Rattle.bib_answers.proofs.Words.{◌≡◌, ◌∙◌, ℕ, ◌+◌, ◌≤◌, ◌<◌, List, [], ◌∷◌, ◌++◌, length, take, get_or, map, zip, min, slice_get, Option, Some, option_map, refl, sym, ap, ap₂, flat_map, cons_option, option_map_or, take_all, filter_map-append, get_or-zip, length-zip, Text, EntryTexts, Record}
use Rattle.bib_answers.proofs.Words.{record_of, expanded, labels_of, keyed_line, records_at, AreLabelRows, key_at}
use Rattle.std.proofs.Common.{arith}
use Rattle.std.proofs.lemmas.List.{map-append}
use Rattle.bib_names.specs.Label.{label_base}
use Rattle.bib_answers.specs.Labels.{label_line, labelled}
use Rattle.bib_answers.proofs.LineLists.{lines_more}

-- one more label and key
pub label_more : (labels keys : List Text) (n : ℕ) (label key : Text) → n < min (length labels) (length keys) → label ≡ get_or labels n label → key ≡ get_or keys n key
    → flat_map keyed_line (take n (zip labels keys)) ++ keyed_line (label, key) ≡ flat_map keyed_line (take (n + 1) (zip labels keys))
label_more labels keys n label key within is also =
    let both : get_or (zip labels keys) n (label, key) ≡ (label, key) = get_or-zip labels keys n (label, key) (omega arith) (omega arith) ∙ ap (λ (t : Text). (t, get_or keys n key)) (sym is) ∙ ap (λ (k : Text). (label, k)) (sym also) in
    ap (λ (p : Text × Text). flat_map keyed_line (take n (zip labels keys)) ++ keyed_line p) (sym both)
    ∙ lines_more keyed_line (zip labels keys) n (label, key) (omega (arith, length-zip labels keys))

pub labels_all : (labels keys : List Text) (n : ℕ) → min (length labels) (length keys) ≤ n → take n (zip labels keys) ≡ zip labels keys
labels_all labels keys n end = take_all n (zip labels keys) (omega (arith, length-zip labels keys))

-- the lines of records are those of their keys
lines_keyed : (labels : List Text) (records : List Record) → flat_map keyed_line (zip labels (map (λ (r : Record). r.key) records)) ≡ flat_map label_line (zip labels records)
lines_keyed [] records = refl
lines_keyed (label ∷ labels) [] = refl
lines_keyed (label ∷ labels) (r ∷ records) = ap (λ (t : Text). label_line (label, r) ++ t) (lines_keyed labels records)

pub lines_of_rows : (records : List Record) (bases keys : List Text) → AreLabelRows records bases keys → flat_map keyed_line (zip (labels_of bases) keys) ≡ flat_map label_line (labelled records)
lines_of_rows records bases keys rows =
    ap₂ (λ (bs ks : List Text). flat_map keyed_line (zip (labels_of bs) ks)) rows.bases_are rows.keys_are
    ∙ lines_keyed (labels_of (map (λ (r : Record). label_base r.fields) records)) records

-- one more record
rows_more : (records more : List Record) (r : Record) (bases keys : List Text) (base key : Text) → base ≡ label_base r.fields → key ≡ r.key → records ++ r ∷ [] ≡ more → AreLabelRows records bases keys → AreLabelRows more (bases ++ base ∷ []) (keys ++ key ∷ [])
rows_more records more r bases keys base key is also next rows = record {
  bases_are = ap₂ (λ (bs : List Text) (b : Text). bs ++ b ∷ []) rows.bases_are is
      ∙ sym (map-append (λ (x : Record). label_base x.fields) records (r ∷ [])) ∙ ap (map (λ (x : Record). label_base x.fields)) next;
  keys_are = ap₂ (λ (ks : List Text) (k : Text). ks ++ k ∷ []) rows.keys_are also
      ∙ sym (map-append (λ (x : Record). x.key) records (r ∷ [])) ∙ ap (map (λ (x : Record). x.key)) next;
}

-- one more entry
pub rows_with_one : (depth : ℕ) (entries : List EntryTexts) (list : List ℕ) (n : ℕ) (entry : EntryTexts) (bases keys : List Text) (base key : Text) → slice_get entries n ≡ Some entry
    → base ≡ label_base (record_of depth entries n entry).fields → key ≡ key_at entries n
    → AreLabelRows (records_at depth entries list) bases keys → AreLabelRows (records_at depth entries (list ++ n ∷ [])) (bases ++ base ∷ []) (keys ++ key ∷ [])
rows_with_one depth entries list n entry bases keys base key at is also rows =
    let rec : Record = record_of depth entries n entry in
    let next : records_at depth entries (list ++ n ∷ []) ≡ records_at depth entries list ++ rec ∷ [] =
    filter_map-append (expanded depth entries) list (n ∷ [])
    ∙ ap (λ (o : Option EntryTexts). records_at depth entries list ++ cons_option (option_map (record_of depth entries n) o) []) at in
    rows_more (records_at depth entries list) (records_at depth entries (list ++ n ∷ [])) rec bases keys base key is
    (also ∙ ap (λ (o : Option EntryTexts). option_map_or (λ e. e.key) o []) at) (sym next) rows
