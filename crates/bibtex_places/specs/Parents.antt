-- Parents as the code keeps them.
use Rattle.std.specs.Prelude.{ℕ, ◌≡◌, Bool, List, Option, Some, None, if◌then◌else◌, option_and_then, slice_get}
use Rattle.bib_spec.specs.Text.{Text}
use Rattle.bib_spec.specs.Records.{EntryTexts}
use Rattle.bibtex_spec.specs.Places.{Place}
use Rattle.bibtex_spec.specs.Listed.{parent_place, is_shown}

-- the parent that is kept for place i, if any
abbrev pub parent_in : List (Option ℕ) → ℕ → Option ℕ
parent_in parents i = option_and_then (λ parent. parent) (slice_get parents i)

-- the parent places of all places are kept
abbrev pub AreParents : List EntryTexts → List Text → List Place → List (Option ℕ) → Type 0
AreParents entries keys places parents = (i : ℕ) → parent_in parents i ≡ parent_place entries keys places i

-- the place with this number, if it is held and listed
abbrev pub listed_place : Bool → ℕ → List Place → ℕ → Option Place
listed_place all least places i = option_and_then (λ place. if is_shown all least place then Some place else None) (slice_get places i)
