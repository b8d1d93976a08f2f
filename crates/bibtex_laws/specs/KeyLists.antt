-- The list that BibTeX 0.99d gives to a style for a list of keys, and the cited list of the dialect.
use Rattle.std.specs.Prelude.{ℕ, ◌≡◌, ◌≤◌, ◌==◌, List, ◌++◌, Option, Some, None, IsPermutation, if◌then◌else◌, filter_map, option_map, option_and_then, slice_get}
use Rattle.std.specs.List.{list_any}
use Rattle.bib_spec.specs.Text.{Text}
use Rattle.bib_spec.specs.Records.{EntryTexts, parent, default_depth, expanded, cited_by_key, listed}
use Rattle.bibtex_spec.specs.Listed.{ListedRecord, listed_as_bibtex}
use Rattle.bibtex_spec.specs.ListLaws.{IsOrdinary, as_listed, AreOrdinaryKeys, ParentsAreLast, ParentsInOrder}

-- the key of the parent of entry n, if the parent is in the cited list of the dialect
abbrev pub listed_parent_key : List EntryTexts → List Text → ℕ → ℕ → Option Text
listed_parent_key entries keys least n =
    option_map (λ entry. entry.key) (option_and_then (slice_get entries)
    (option_and_then (λ m. if list_any (λ k. k == m) (listed entries keys least) then Some m else None) (parent entries n)))

-- the record of entry n in the dialect, with the key of its parent, if the parent is listed, too
abbrev pub cited_record : List EntryTexts → List Text → ℕ → ℕ → Option ListedRecord
cited_record entries keys least n = option_map (as_listed (listed_parent_key entries keys least n)) (expanded default_depth entries n)

-- The records are those of the dialect: first those of the cited entries, in the order of first citation, then those of the
-- added parents. The entries are those of the dialect's cited list; if the parents are in the order of their first cited
-- children, they are in its order, too.
pub record ListsTheDialects (entries : List EntryTexts) (keys : List Text) (least : ℕ) : Type 0 where
  pub added : List ℕ
  pub records : listed_as_bibtex entries keys least ≡ filter_map (cited_record entries keys least) (cited_by_key entries keys ++ added)
  pub entries_are : IsPermutation (cited_by_key entries keys ++ added) (listed entries keys least)
  pub in_order : ParentsInOrder entries keys → cited_by_key entries keys ++ added ≡ listed entries keys least

-- A list of ordinary keys of an ordinary file in which no parent has a crossref, and each is after all its children, is the
-- dialect's, up to the order of added parents.
abbrev pub keys_list_the_dialects : Type 0
keys_list_the_dialects = (entries : List EntryTexts) (keys : List Text) (least : ℕ) → 1 ≤ least → IsOrdinary entries → ParentsAreLast entries → AreOrdinaryKeys entries keys →
    ListsTheDialects entries keys least
