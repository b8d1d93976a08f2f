-- A list of distinct ids, and what is kept of each id.
use Rattle.std.specs.Prelude.{ℕ, Bool, true, false, ◌==◌, ◌≡◌, ◌≢◌, ◌≤◌, ◌<◌, ◌+◌, ◌-◌, ◌^◌, List, [], ◌∷◌, length, Option, None, slice_index_or, slice_index, insert, remove, if◌then◌else◌, nat_lt}
use Rattle.std.specs.List.{AllByRecursion}
use Rattle.bib_pages.specs.Pages.{joined}

-- the id is none of these
abbrev pub Lacks : List ℕ → ℕ → Type 0
Lacks ids id = AllByRecursion (λ other. other ≢ id) ids

-- no id is in the list twice
abbrev pub IsDistinct : List ℕ → Type 0
IsDistinct [] = Unit {0}
IsDistinct (id ∷ ids) = Lacks ids id × IsDistinct ids

-- the id is one of these
abbrev pub is_among : List ℕ → ℕ → Bool
is_among [] id = false
is_among (other ∷ ids) id = if other == id then true else is_among ids id

-- each id is larger than those before it
abbrev pub Ascend : List ℕ → Type 0
Ascend [] = Unit {0}
Ascend (id ∷ ids) = AllByRecursion (λ other. id < other) ids × Ascend ids

-- the id is in use
pub record IsKnown (homes : List (Option ℕ)) (id : ℕ) : Type 0 where
  pub within : id < length homes
  pub home : slice_index_or homes id None ≢ None

-- each id that was in use still is, and there are places for no fewer ids
pub record IsTold (old new : List (Option ℕ)) : Type 0 where
  pub len : length old ≤ length new
  pub known : (id : ℕ) → IsKnown old id → IsKnown new id

-- the ids in the pages are distinct and in use, and `count` is their number, which is less than 2^64
pub record IsOrdered (sheets : List (List ℕ)) (homes : List (Option ℕ)) (count : ℕ) : Type 0 where
  pub count_is : count ≡ length (joined sheets)
  pub fits : count < 2 ^ 64
  pub distinct : IsDistinct (joined sheets)
  pub known : AllByRecursion (IsKnown homes) (joined sheets)

-- ---- what stays when another id comes or goes

-- the number that id n has after another is inserted before id `at`
abbrev pub after_insert : ℕ → ℕ → ℕ
after_insert at n = if nat_lt n at then n else n + 1

-- the number that id n has after another, id `at`, is removed
abbrev pub after_remove : ℕ → ℕ → ℕ
after_remove at n = if nat_lt n at then n else n - 1

-- the other ids stay, and keep their order
pub record KeepsOrder : Type 0 where
  pub inserted : (ids : List ℕ) (at id n : ℕ) → at ≤ length ids → n < length ids → slice_index (insert ids at id) (after_insert at n) ≡ slice_index ids n
  pub inserted_order : (at n m : ℕ) → n < m → after_insert at n < after_insert at m
  pub removed : (ids : List ℕ) (at n : ℕ) → at < length ids → n ≢ at → slice_index (remove ids at) (after_remove at n) ≡ slice_index ids n
  pub removed_order : (at n m : ℕ) → n ≢ at → m ≢ at → n < m → after_remove at n < after_remove at m
