-- Numbers in pages, and numbers that are moved.
use Rattle.std.specs.Prelude.{ℕ, zero, suc, Bool, ◌≡◌, ◌<◌, ◌≤◌, ◌+◌, ◌-◌, ◌%◌, ◌^◌, nat_lt, List, [], ◌∷◌, ◌++◌, length, take, drop, map, slice_index_or}
use Rattle.std.specs.List.{AllByRecursion}
use Rattle.bib_pages.specs.Pages.{joined}

-- the sum of both, modulo 2^64
abbrev pub plus : ℕ → ℕ → ℕ
plus step m = (step + m) % 2 ^ 64

-- the members, with those from place k on moved
abbrev pub moved_from : {X : Type 0} → (X → X) → ℕ → List X → List X
moved_from move k members = take k members ++ map move (drop k members)

-- the pages, with the members from place k of page p on moved
abbrev pub shifted : {X : Type 0} → (X → X) → ℕ → ℕ → List (List X) → List (List X)
shifted move p k [] = []
shifted move zero k (page ∷ pages) = moved_from move k page ∷ map (map move) pages
shifted move (suc p) k (page ∷ pages) = page ∷ shifted move p k pages

-- how many members come before each page, if k come before the first
abbrev pub starts : {X : Type 0} → ℕ → List (List X) → List ℕ
starts k [] = []
starts k (page ∷ pages) = k ∷ starts (k + length page) pages

-- each page has a member
abbrev pub AreFilled : {X : Type 0} → List (List X) → Type 0
AreFilled pages = AllByRecursion (λ page. 1 ≤ length page) pages

-- the last number of the page is below n
abbrev pub ends_below : ℕ → List ℕ → Bool
ends_below n page = nat_lt (slice_index_or page (length page - 1) 0) n

-- each page has a member, `firsts` has the count of members before each page, and `count` is that of all, less than 2^64
pub record IsKept (pages : List (List ℕ)) (firsts : List ℕ) (count : ℕ) : Type 0 where
  pub filled : AreFilled pages
  pub told : firsts ≡ starts 0 pages
  pub count_is : count ≡ length (joined pages)
  pub fits : count < 2 ^ 64
