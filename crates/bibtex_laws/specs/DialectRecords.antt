-- The fields of the records that BibTeX 0.99d gives to a style are those of the dialect, at a depth of their own for each record.
use Rattle.std.specs.Prelude.{ℕ, ◌≡◌, ◌&&◌, true, false, List, [], ◌∷◌, Some, codes, length, slice_get}
use Rattle.std.specs.List.{list_any}
use Rattle.bib_spec.specs.Text.{Text, same}
use Rattle.bib_spec.specs.Records.{Record, EntryTexts, keys_of, crossref_text, expanded}
use Rattle.edit_spec.specs.Laws.{AllDiffer}
use Rattle.bibtex_spec.specs.Places.{cited_keys, are_all_cited, places_of}
use Rattle.bibtex_spec.specs.Listed.{holder, is_missing, givers, ListedRecord, listed_as_bibtex}
use Rattle.bibtex_spec.specs.Rows.{field, crossref_to, misc, child, b, c, t, two, star}
use Rattle.bibtex_laws.specs.RenamingLists.{NoneNamesNothing}

-- If `*` is in the list, no crossref is a cited key that no entry has. (Such a crossref names the place with the number of the
-- key among the cited keys, whatever entry holds that place.)
abbrev pub NoneNamesAMissingKey : List EntryTexts → List Text → Type 0
NoneNamesAMissingKey entries keys = (n : ℕ) (entry : EntryTexts) (text : Text) → are_all_cited keys ≡ true → slice_get entries n ≡ Some entry
    → crossref_text entry ≡ Some text → (is_missing entries text && list_any (same text) (cited_keys keys)) ≡ false

-- how many entries give fields to place i: the held places from which it inherits
abbrev pub depth_of : List EntryTexts → List Text → ℕ → ℕ
depth_of entries keys i = length (givers entries keys (places_of entries keys) i)

-- The listed record is that of a place, which an entry holds; it has the type and the fields of the dialect's record of that
-- entry, at the depth of the place, and its key, folded. The depth may be 0, and more than `depth_limit`.
pub record IsDialectRecord (entries : List EntryTexts) (keys : List Text) (r : ListedRecord) : Type 0 where
  pub place : ℕ
  pub entry : ℕ
  pub held : holder (places_of entries keys) place ≡ Some entry
  pub full : Record
  pub is : expanded (depth_of entries keys place) entries entry ≡ Some full
  pub kind_name : r.kind_name ≡ full.kind_name
  pub key : same full.key r.key ≡ true
  pub fields : r.fields ≡ full.fields

-- In a file without repeated keys, and without an empty crossref beside an empty key, each listed record has the fields of the
-- dialect's record at the depth of its place.
abbrev pub records_are_the_dialects : Type 0
records_are_the_dialects = (entries : List EntryTexts) (keys : List Text) (least : ℕ) →
    AllDiffer (keys_of entries) → NoneNamesNothing entries → NoneNamesAMissingKey entries keys →
    (k : ℕ) (r : ListedRecord) → slice_get (listed_as_bibtex entries keys least) k ≡ Some r → IsDialectRecord entries keys r

-- ---- a cited key that no entry has

-- `@misc{b, t={2}}@misc{c, crossref={zz}}`
abbrev pub without_zz : List EntryTexts
without_zz = misc b (field t two ∷ []) ∷ misc c (crossref_to (codes "zz") ∷ []) ∷ []

-- the keys `*` and `zz`
abbrev pub star_and_zz : List Text
star_and_zz = star ∷ codes "zz" ∷ []

-- BibTeX gives c the field t of b: `zz` is the first cited key, and b has the first place. In the dialect c has no parent, so
-- that its record has no field at any depth. All other conditions hold.
pub record MissingKeysMatter : Type 0 where
  pub keys_differ : AllDiffer (keys_of without_zz)
  pub none_empty : NoneNamesNothing without_zz
  pub listed : slice_get (listed_as_bibtex without_zz star_and_zz 2) 1 ≡ Some (child c ((t, two) ∷ []) (codes "zz"))
  pub no_dialects : IsDialectRecord without_zz star_and_zz (child c ((t, two) ∷ []) (codes "zz")) → ⊥
