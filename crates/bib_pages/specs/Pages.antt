-- A list that is kept in pages.
use Rattle.std.specs.Prelude.{ℕ, suc, ◌≡◌, ◌≤◌, ◌<◌, ◌+◌, ◌++◌, List, [], ◌∷◌, length, take, drop, slice_index_or}
use Rattle.std.specs.List.{flat_map}

-- the pages, one after another
abbrev pub joined : {X : Type 0} → List (List X) → List X
joined pages = flat_map (λ p. p) pages

-- page p, counted from 0
abbrev pub page_at : {X : Type 0} → List (List X) → ℕ → List X
page_at pages p = slice_index_or pages p []

-- member n of the list is member k of page p
pub record IsPlace {X : Type 0} (pages : List (List X)) (n p k : ℕ) : Type 0 where
  pub page : p < length pages
  pub within : k < length (page_at pages p)
  pub at : n ≡ length (joined (take p pages)) + k

-- a member inserted before member k of page p, or at its end, is inserted before member n of the list, or at its end
pub record IsGap {X : Type 0} (pages : List (List X)) (n p k : ℕ) : Type 0 where
  pub page : p < length pages
  pub within : k ≤ length (page_at pages p)
  pub at : n ≡ length (joined (take p pages)) + k

-- the pages once page p is cut in two, before its member k
abbrev pub parted_at : {X : Type 0} → ℕ → ℕ → List (List X) → List (List X)
parted_at k p pages = take p pages ++ take k (page_at pages p) ∷ (drop k (page_at pages p) ∷ drop (suc p) pages)

-- on the way to member n of the list, the first p pages are passed, and `left` members before it remain
pub record IsOnWay {X : Type 0} (pages : List (List X)) (p n left : ℕ) : Type 0 where
  pub at : n ≡ length (joined (take p pages)) + left
