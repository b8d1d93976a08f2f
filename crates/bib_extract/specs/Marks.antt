-- Marks of entries and of items, as the walks keep them.
use Rattle.std.specs.Prelude.{ℕ, ◌≡◌, ◌⊎◌, Bool, true, false, List, Some, slice_index_or}
use Rattle.bib_spec.specs.Records.{EntryTexts, parent}
use Rattle.extract_spec.specs.Extract.{is_kept_entry}

-- number n is marked
abbrev pub is_marked : List Bool → ℕ → Bool
is_marked marks n = slice_index_or marks n false

-- what was marked is marked
abbrev pub StayMarked : List Bool → List Bool → Type 0
StayMarked old new = (n : ℕ) → is_marked old n ≡ true → is_marked new n ≡ true

-- the parent of each marked entry is marked
abbrev pub AreClosed : List EntryTexts → List Bool → Type 0
AreClosed entries marks = (n p : ℕ) → is_marked marks n ≡ true → parent entries n ≡ Some p → is_marked marks p ≡ true

-- the parent of each marked entry is marked, or is this entry
abbrev pub AreClosedBut : List EntryTexts → List Bool → ℕ → Type 0
AreClosedBut entries marks heir = (n p : ℕ) → is_marked marks n ≡ true → parent entries n ≡ Some p → (is_marked marks p ≡ true) ⊎ (p ≡ heir)

-- only entries that are kept for the list are marked
abbrev pub AreKept : List EntryTexts → List ℕ → List Bool → Type 0
AreKept entries list marks = (n : ℕ) → is_marked marks n ≡ true → is_kept_entry entries list n ≡ true

-- exactly the entries that are kept for the list are marked
abbrev pub AreMarksOf : List EntryTexts → List ℕ → List Bool → Type 0
AreMarksOf entries list marks = (n : ℕ) → is_marked marks n ≡ is_kept_entry entries list n
