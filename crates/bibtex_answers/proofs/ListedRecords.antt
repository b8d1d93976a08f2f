-- Listed entries and their records.
use Rattle.std.proofs.Common.{◌≡◌, ℕ, zero, suc, ◌<◌, List, [], ◌∷◌, ◌++◌, Option, Some, None, slice_get, option_map, length, map, get_or, codes, refl, sym, ap, ap₂, arith}
use Rattle.std.specs.List.{flat_map}
use Rattle.std.specs.Option.{option_map_or}
use Rattle.std.proofs.lemmas.Option.{none-some, same_Some}
use Rattle.bib_spec.specs.Text.{Text, folded}
use Rattle.bib_spec.specs.Records.{EntryTexts, Record, own_fields, with_inherited}
use Rattle.bibtex_spec.specs.Listed.{ListedRecord}
use Rattle.bibtex_spec.specs.ListLaws.{bare}
use Rattle.bibtex_lists.specs.Records.{record_as_listed}
use Rattle.bibtex_places.specs.Lists.{record_of_listed}
use Rattle.bibtex_places.specs.declared.lists.BibtexEntry.{BibtexEntry}
use Rattle.bibtex_answers.specs.Cite.{listed_line}
use Rattle.bibtex_answers.specs.Entries.{HaveRecords, HasRecord, entry_line}

-- ---- lists

pub same_head : {X : Type 0} (x y : X) (xs ys : List X) → x ∷ xs ≡ y ∷ ys → x ≡ y
same_head x y xs ys e = cc

pub same_tail : {X : Type 0} (x y : X) (xs ys : List X) → x ∷ xs ≡ y ∷ ys → xs ≡ ys
same_tail x y xs ys e = cc

pub nil_cons : {X : Type 0} (x : X) (xs : List X) → [] ≡ x ∷ xs → ⊥
nil_cons x xs e = absurd (omega (arith, ap length e))

pub cons_nil : {X : Type 0} (x : X) (xs : List X) → x ∷ xs ≡ [] → ⊥
cons_nil x xs e = absurd (omega (arith, ap length e))

-- ---- one listed entry

-- the record of a listed entry, if this is its entry
abbrev of_texts : List EntryTexts → BibtexEntry → EntryTexts → ListedRecord
of_texts entries entry texts = record {
  kind_name = folded texts.kind;
  key = entry.key;
  fields = with_inherited entries (own_fields texts) entry.up;
  crossref = entry.named;
}

-- a record has the key and the crossref of its listed entry
pub record_has : (entries : List EntryTexts) (entry : BibtexEntry) (listed : ListedRecord) → HasRecord entries entry listed → (listed.key ≡ entry.key) × (listed.crossref ≡ entry.named)
record_has entries entry listed has = of (slice_get entries entry.entry) has
  where
    of : (o : Option EntryTexts) → option_map (of_texts entries entry) o ≡ Some listed → (listed.key ≡ entry.key) × (listed.crossref ≡ entry.named)
    of None e = absurd (none-some listed e)
    of (Some texts) e =
        let same = same_Some (of_texts entries entry texts) listed e in
        (sym (ap (λ (l : ListedRecord). l.key) same), sym (ap (λ (l : ListedRecord). l.crossref) same))

-- the record that is made of a listed entry, if this is its entry, if any
abbrev made : List EntryTexts → BibtexEntry → Option EntryTexts → Record
made entries entry o = record {
  kind_name = option_map_or (λ texts. folded texts.kind) o [];
  key = entry.key;
  fields = with_inherited entries (option_map_or own_fields o []) entry.up;
}

-- the record that is made of a listed entry is its record without the crossref
pub record_made : (entries : List EntryTexts) (entry : BibtexEntry) (listed : ListedRecord) → HasRecord entries entry listed → record_as_listed entries entry ≡ bare listed
record_made entries entry listed has = of (slice_get entries entry.entry) has
  where
    of : (o : Option EntryTexts) → option_map (of_texts entries entry) o ≡ Some listed → made entries entry o ≡ bare listed
    of None e = absurd (none-some listed e)
    of (Some texts) e = ap bare (same_Some (of_texts entries entry texts) listed e)

-- the line of a listed entry is that of its record
pub line_is : (entries : List EntryTexts) (entry : BibtexEntry) (listed : ListedRecord) → HasRecord entries entry listed → entry_line entry ≡ listed_line listed
line_is entries entry listed has =
    let same = record_has entries entry listed has in
    ap₂ (λ (key : Text) (named : Option Text). key ++ (option_map_or (λ text. codes "\t" ++ text) named [] ++ codes "\n")) (sym same.0) (sym same.1)

-- ---- all listed entries

-- the listed entry with this number has a record
pub record_at : (entries : List EntryTexts) (list : List BibtexEntry) (records : List ListedRecord) (i : ℕ) (d : BibtexEntry) → HaveRecords entries list records → i < length list
    → (listed : ListedRecord) × HasRecord entries (get_or list i d) listed
record_at entries [] records i d have within = absurd (omega (arith, within))
record_at entries (entry ∷ list) [] i d have within = absurd (cons_nil (record_of_listed entries entry) (map (record_of_listed entries) list) have)
record_at entries (entry ∷ list) (listed ∷ records) zero d have within =
    (listed, same_head (record_of_listed entries entry) (Some listed) (map (record_of_listed entries) list) (map Some records) have)
record_at entries (entry ∷ list) (listed ∷ records) (suc i) d have within =
    record_at entries list records i d (same_tail (record_of_listed entries entry) (Some listed) (map (record_of_listed entries) list) (map Some records) have) (omega (arith, within))

-- the lines of listed entries are those of their records
pub lines_are : (entries : List EntryTexts) (list : List BibtexEntry) (records : List ListedRecord) → HaveRecords entries list records → flat_map entry_line list ≡ flat_map listed_line records
lines_are entries [] [] have = refl
lines_are entries [] (listed ∷ records) have = absurd (nil_cons (Some listed) (map Some records) have)
lines_are entries (entry ∷ list) [] have = absurd (cons_nil (record_of_listed entries entry) (map (record_of_listed entries) list) have)
lines_are entries (entry ∷ list) (listed ∷ records) have =
    ap₂ (λ (line lines : Text). line ++ lines)
    (line_is entries entry listed (same_head (record_of_listed entries entry) (Some listed) (map (record_of_listed entries) list) (map Some records) have))
    (lines_are entries list records (same_tail (record_of_listed entries entry) (Some listed) (map (record_of_listed entries) list) (map Some records) have))

-- the records that are made of listed entries are their records without the crossrefs
pub records_made : (entries : List EntryTexts) (list : List BibtexEntry) (records : List ListedRecord) → HaveRecords entries list records → map (record_as_listed entries) list ≡ map bare records
records_made entries [] [] have = refl
records_made entries [] (listed ∷ records) have = absurd (nil_cons (Some listed) (map Some records) have)
records_made entries (entry ∷ list) [] have = absurd (cons_nil (record_of_listed entries entry) (map (record_of_listed entries) list) have)
records_made entries (entry ∷ list) (listed ∷ records) have =
    ap₂ (λ (rec : Record) (rest : List Record). rec ∷ rest)
    (record_made entries entry listed (same_head (record_of_listed entries entry) (Some listed) (map (record_of_listed entries) list) (map Some records) have))
    (records_made entries list records (same_tail (record_of_listed entries entry) (Some listed) (map (record_of_listed entries) list) (map Some records) have))
