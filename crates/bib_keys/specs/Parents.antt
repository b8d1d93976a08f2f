-- What parents give to the labels of their descendants, as it is kept from one entry to the next.
use Rattle.std.specs.Prelude.{ℕ, ◌≡◌, List, Option, None, All, IfSome, IsSome, fold, slice_index_or}
use Rattle.bib_spec.specs.Text.{Text}
use Rattle.bib_spec.specs.Records.{EntryTexts, entries_of, fields_at}
use Rattle.bib_store.specs.Readings.{OfReading}
use Rattle.bib_store.specs.Choosing.{chosen}
use Rattle.bib_names.specs.Label.{Fields, label_names}
use Rattle.bib_names.specs.declared.label_fields.LabelParts.{LabelParts}
use Rattle.bib_names.specs.LabelParts.{parts_of, no_parts, parts_with}
use Rattle.bib_keys.specs.declared.label_bases.Parents.{Parents}

-- the fields of entry n that labels are made of
abbrev pub label_fields : List EntryTexts → ℕ → Fields
label_fields entries n = chosen label_names (fields_at entries n)

-- these parts, and from entry n each part that is still missing
abbrev pub with_parent : List EntryTexts → LabelParts → ℕ → LabelParts
with_parent entries parts n = parts_with parts (parts_of (label_fields entries n))

-- what these entries give, each part from the first that gives it
abbrev pub parts_along : List EntryTexts → List ℕ → LabelParts
parts_along entries ns = fold (with_parent entries) no_parts ns

-- what is kept of entry n
abbrev pub kept_of : {X : Type 0} → List (Option X) → ℕ → Option X
kept_of known n = slice_index_or known n None

-- the same is kept of each entry
abbrev pub KeepTheSame : {X : Type 0} → List (Option X) → List (Option X) → Type 0
KeepTheSame old new = (n : ℕ) → kept_of new n ≡ kept_of old n

-- something is kept of each of these entries
abbrev pub AreKnown : {X : Type 0} → List (Option X) → List ℕ → Type 0
AreKnown known ns = All (λ n. IsSome (kept_of known n)) ns

-- what is kept of an entry is what its fields give
abbrev pub AreParents : Text → Parents → Type 0
AreParents file parents = OfReading file (λ db. (n : ℕ) → IfSome (kept_of parents.known.items n) (λ kept. kept.value ≡ parts_of (label_fields (entries_of db) n)))
