-- The records of listed entries have field texts, and keys without white space.
use Rattle.std.proofs.Common.{◌≡◌, ◌∙◌, ℕ, suc, Bool, true, false, not, List, [], ◌∷◌, ◌++◌, Option, Some, None, option_map, slice_get, filter, refl, sym, ap, ⊎_elim}
use Rattle.std.specs.List.{list_any, list_all, AllByRecursion}
use Rattle.std.specs.Option.{option_map_or}
use Rattle.std.proofs.lemmas.Bool.{cases_Bool, cond-true, cond-false, and_parts, and_from}
use Rattle.bib_spec.specs.Text.{Text, is_space}
use Rattle.bib_spec.specs.Reading.{Reading, Reads}
use Rattle.bib_spec.specs.Records.{EntryTexts, RecordField, entries_of, own_fields, missing, fields_at, with_inherited, record_of}
use Rattle.bibtex_places.specs.declared.lists.BibtexEntry.{BibtexEntry}
use Rattle.bibtex_places.specs.Lists.{listed_entries}
use Rattle.bibtex_lists.specs.Records.{record_as_listed}
use Rattle.ris_format.specs.Fitting.{has_own_text, is_spaced}
use Rattle.ris_format.proofs.GivenLaws.{given_records_are_spaced}
use Rattle.ris_format.proofs.FitLaws.{spaced_records_fit}
use Rattle.bibtex_ris.specs.Fitting.{Fits, ListedRecordsFit}
use Rattle.bibtex_ris.proofs.BareKeys.{IsBare, IsListedBare, listed_bare}

-- ---- entries of a file

module _ (file : Text) (db : Reading) (reads : Reads file db) where
  -- an entry, without what it inherits, has field texts, and a key without white space
  entry_spaced : (n : ℕ) (entry : EntryTexts) → slice_get (entries_of db) n ≡ Some entry → is_spaced (record_of 0 (entries_of db) n entry) ≡ true
  entry_spaced n entry at = given_records_are_spaced file db 0 n (record_of 0 (entries_of db) n entry) reads (ap (option_map (record_of 0 (entries_of db) n)) at)

  own_spaced : (n : ℕ) → list_all has_own_text (fields_at (entries_of db) n) ≡ true
  own_spaced n = of (slice_get (entries_of db) n) refl
    where
      of : (o : Option EntryTexts) → slice_get (entries_of db) n ≡ o → list_all has_own_text (option_map_or own_fields o []) ≡ true
      of None at = refl
      of (Some entry) at = (and_parts (list_all has_own_text (own_fields entry)) (not (list_any is_space entry.key)) (entry_spaced n entry at)).0

  key_bare : (n : ℕ) (entry : EntryTexts) → slice_get (entries_of db) n ≡ Some entry → IsBare entry.key
  key_bare n entry at = of (list_any is_space entry.key) (and_parts (list_all has_own_text (own_fields entry)) (not (list_any is_space entry.key)) (entry_spaced n entry at)).1
    where
      of : (b : Bool) → not b ≡ true → b ≡ false
      of false e = refl
      of true e = sym e

-- ---- all keys

keys_bare : (entries : List EntryTexts) → ((n : ℕ) (entry : EntryTexts) → slice_get entries n ≡ Some entry → IsBare entry.key) → AllByRecursion (λ entry. IsBare entry.key) entries
keys_bare [] h = tt
keys_bare (entry ∷ entries) h = (h 0 entry refl, keys_bare entries (λ n other at. h (suc n) other at))

-- ---- what is inherited

spaced-append : (xs ys : List RecordField) → list_all has_own_text xs ≡ true → list_all has_own_text ys ≡ true → list_all has_own_text (xs ++ ys) ≡ true
spaced-append [] ys h k = k
spaced-append (x ∷ xs) ys h k =
    let p = and_parts (has_own_text x) (list_all has_own_text xs) h in
    and_from (has_own_text x) _ p.0 (spaced-append xs ys p.1 k)

spaced-filter : (test : RecordField → Bool) (xs : List RecordField) → list_all has_own_text xs ≡ true → list_all has_own_text (filter test xs) ≡ true
spaced-filter test [] h = refl
spaced-filter test (x ∷ xs) h =
    let p = and_parts (has_own_text x) (list_all has_own_text xs) h in
    ⊎_elim
    (λ (t : test x ≡ true). ap (list_all has_own_text) (cond-true (test x) (x ∷ filter test xs) (filter test xs) t) ∙ and_from (has_own_text x) _ p.0 (spaced-filter test xs p.1))
    (λ (t : test x ≡ false). ap (list_all has_own_text) (cond-false (test x) (x ∷ filter test xs) (filter test xs) t) ∙ spaced-filter test xs p.1)
    (cases_Bool (test x))

inherited_spaced : (entries : List EntryTexts) → ((n : ℕ) → list_all has_own_text (fields_at entries n) ≡ true) → (own : List RecordField) (ns : List ℕ) → list_all has_own_text own ≡ true
    → list_all has_own_text (with_inherited entries own ns) ≡ true
inherited_spaced entries each own [] h = h
inherited_spaced entries each own (n ∷ ns) h =
    inherited_spaced entries each (own ++ missing own (fields_at entries n)) ns
    (spaced-append own (missing own (fields_at entries n)) h (spaced-filter _ (fields_at entries n) (each n)))

-- ---- listed entries

abbrev pub IsListedSpaced : List EntryTexts → BibtexEntry → Type 0
IsListedSpaced entries listed = is_spaced (record_as_listed entries listed) ≡ true

all_spaced : (entries : List EntryTexts) → ((n : ℕ) → list_all has_own_text (fields_at entries n) ≡ true) → (list : List BibtexEntry) → AllByRecursion IsListedBare list → AllByRecursion (IsListedSpaced entries) list
all_spaced entries each [] bare = tt
all_spaced entries each (listed ∷ list) bare = (
  and_from (list_all has_own_text (record_as_listed entries listed).fields) _ (inherited_spaced entries each (fields_at entries listed.entry) listed.up (each listed.entry)) (ap not bare.0),
  all_spaced entries each list bare.1,
)

-- the records of all listed entries are spaced
pub listed_spaced : (file : Text) (db : Reading) (keys : List Text) (least : ℕ) → Reads file db → AllByRecursion (IsListedSpaced (entries_of db)) (listed_entries (entries_of db) keys least)
listed_spaced file db keys least reads =
    all_spaced (entries_of db) (own_spaced file db reads) (listed_entries (entries_of db) keys least)
    (listed_bare (entries_of db) keys least (keys_bare (entries_of db) (key_bare file db reads)))

-- and so they fit
pub listed_records_fit : ListedRecordsFit
listed_records_fit file db keys least reads = all_fit (listed_entries (entries_of db) keys least) (listed_spaced file db keys least reads)
  where
    all_fit : (list : List BibtexEntry) → AllByRecursion (IsListedSpaced (entries_of db)) list → AllByRecursion (Fits (entries_of db)) list
    all_fit [] all = tt
    all_fit (listed ∷ list) all = (spaced_records_fit (record_as_listed (entries_of db) listed) all.0, all_fit list all.1)
