-- Which entries a list has, as the code keeps them.
use Rattle.std.specs.Prelude.{ℕ, ◌≡◌, ◌<◌, ◌==◌, Bool, false, List, length, slice_index_or, All}
use Rattle.std.specs.List.{list_any}
use Rattle.bib_spec.specs.Text.{Text}
use Rattle.bib_spec.specs.Records.{entries_of}
use Rattle.bib_store.specs.Readings.{OfReading}

-- the mark of each number below the count says whether it is in the list
pub record AreMarks (count : ℕ) (list : List ℕ) (marks : List Bool) : Type 0 where
  pub all : length marks ≡ count
  pub marked : (m : ℕ) → m < count → slice_index_or marks m false ≡ list_any (λ n. n == m) list

-- the file has entries with these numbers
abbrev pub AreEntryNumbers : Text → List ℕ → Type 0
AreEntryNumbers file list = OfReading file (λ db. All (λ n. n < length (entries_of db)) list)

-- there are keys at these positions
abbrev pub ArePlaces : List Text → List ℕ → Type 0
ArePlaces keys places = All (λ place. place < length keys) places
