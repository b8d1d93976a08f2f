-- Slots of marks: a mark whose slot is free is not there.
use Rattle.std.specs.Prelude.{ℕ, ◌≡◌, ◌%◌, Bool, true, List, slice_index_or, All}
use Rattle.std.specs.List.Sorted.{IsNonDecreasing}

-- how many slots there are
abbrev pub slot_count : ℕ
slot_count = 1024

-- the slot of a mark
abbrev pub slot_of : ℕ → ℕ
slot_of mark = mark % slot_count

-- the slot of the mark is taken, or there is no such slot
abbrev pub IsSeen : List Bool → ℕ → Type 0
IsSeen seen mark = slice_index_or seen (slot_of mark) true ≡ true

-- the marks are in ascending order, and the slot of each is taken
pub record AreMarks (marks : List ℕ) (seen : List Bool) : Type 0 where
  pub order : IsNonDecreasing marks
  pub each : All (IsSeen seen) marks
