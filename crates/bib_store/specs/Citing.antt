-- The tables by which a cited list is made.
use Rattle.std.specs.Prelude.{ℕ, ◌≡◌, ◌<◌, Bool, false, not, ◌&&◌, ◌==◌, nat_le, List, ◌++◌, length, filter, slice_index_or, count_by}
use Rattle.std.specs.List.{list_any, range_with_len}
use Rattle.bib_spec.specs.Records.{EntryTexts, is_parent_of}

-- the list has this number
abbrev pub is_among : List ℕ → ℕ → Bool
is_among numbers n = list_any (λ m. m == n) numbers

-- the numbers of the list are marked, and no others
abbrev pub AreMarks : List ℕ → List Bool → Type 0
AreMarks numbers marks = (n : ℕ) → n < length marks → slice_index_or marks n false ≡ is_among numbers n

-- for each entry, of how many entries in the list it is the parent
abbrev pub AreCounts : List EntryTexts → List ℕ → List ℕ → Type 0
AreCounts entries listed counts = (n : ℕ) → n < length counts → slice_index_or counts n 0 ≡ count_by (is_parent_of entries n) listed

-- the number is not marked, and its count is large enough
abbrev pub is_added : List Bool → List ℕ → ℕ → ℕ → Bool
is_added marks counts min n = not (slice_index_or marks n false) && nat_le min (slice_index_or counts n 0)

-- the list, and after it those that are added
abbrev pub with_added : List Bool → List ℕ → ℕ → List ℕ → List ℕ
with_added marks counts min listed = listed ++ filter (is_added marks counts min) (range_with_len 0 (length marks))
