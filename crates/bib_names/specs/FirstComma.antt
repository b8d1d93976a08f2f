-- The commas of a name from a place on, and the first of them.
use Rattle.std.specs.Prelude.{◌≡◌, ◌<◌, ◌≤◌, ℕ, ◌+◌, ◌-◌, true, List, ◌∷◌, length}
use Rattle.bib_spec.specs.Text.{Text}
use Rattle.bib_names.specs.Places.{is_level, places_from}
use Rattle.bib_names.specs.Name.{is_comma}

-- the places of the commas at depth 0, from a place on
abbrev pub commas_from : Text → ℕ → List ℕ
commas_from text start = places_from (is_comma text) start (length text - start)

-- this is the place of the first comma at depth 0 from `start` on
pub record IsFirstComma (text : Text) (start place : ℕ) : Type 0 where
  pub after : start ≤ place
  pub within : place < length text
  pub level : is_level text (place + 1) ≡ true
  pub first : commas_from text start ≡ place ∷ commas_from text (place + 1)
