-- Numbers in ascending order, when one comes or goes, and the numbers that the items of a kind have.
use Rattle.std.specs.Prelude.{ℕ, Bool, ◌≡◌, ◌<◌, ◌≤◌, ◌+◌, ◌^◌, ⊤, nat_lt, List, [], ◌∷◌, ◌++◌, length, filter, map}
use Rattle.std.specs.List.{AllByRecursion, enumerate_from}
use Rattle.bib_spec.specs.Tree.{Tree}
use Rattle.bib_spec.specs.Reading.{Item}

-- each number is at most those after it
abbrev pub Ascend : List ℕ → Type 0
Ascend [] = ⊤
Ascend (m ∷ numbers) = AllByRecursion (λ k. m ≤ k) numbers × Ascend numbers

-- how many of the numbers are below n
abbrev pub rank_in : ℕ → List ℕ → ℕ
rank_in n numbers = length (filter (λ m. nat_lt m n) numbers)

-- the numbers are those of `front`, all below n, and after them those of `rest`, none below n
pub record PartAt (n : ℕ) (front rest numbers : List ℕ) : Type 0 where
  pub whole : numbers ≡ front ++ rest
  pub below : AllByRecursion (λ m. m < n) front
  pub above : AllByRecursion (λ m. n ≤ m) rest

-- the numbers below n, and those that are not
pub record HasParts (n : ℕ) (numbers : List ℕ) : Type 0 where
  pub front : List ℕ
  pub rest : List ℕ
  pub are : PartAt n front rest numbers

-- the successor of each of these numbers is less than 2^64
abbrev pub HaveNext : List ℕ → Type 0
HaveNext numbers = AllByRecursion (λ m. m + 1 < 2 ^ 64) numbers

-- ---- items of a kind

-- the items of a kind, each with its number, if the first item of all has this number
abbrev pub numbered : (Tree → Bool) → ℕ → List Item → List (ℕ × Item)
numbered test from items = filter (λ p. test p.1.tree) (enumerate_from from items)

-- the numbers that the items of a kind have, if the first item of all has this number
abbrev pub numbers : (Tree → Bool) → ℕ → List Item → List ℕ
numbers test from items = map (λ p. p.0) (numbered test from items)

-- the items of a kind, in order
abbrev pub those : (Tree → Bool) → List Item → List Item
those test items = filter (λ item. test item.tree) items
