-- The letters of a group from a place on, and the first of them.
use Rattle.std.specs.Prelude.{◌≡◌, ◌<◌, ◌≤◌, ℕ, ◌+◌, ◌-◌, true, List, ◌∷◌, length}
use Rattle.bib_spec.specs.Text.{Text}
use Rattle.bib_names.specs.Places.{is_level, places_from}
use Rattle.bibtex_names.specs.Template.{is_letter_at}

-- the places of the letters of a group, from a place on
abbrev pub letters_from : Text → ℕ → List ℕ
letters_from inside start = places_from (is_letter_at inside) start (length inside - start)

-- this is the place of the first letter of a group from `start` on
pub record IsFirstLetter (inside : Text) (start place : ℕ) : Type 0 where
  pub after : start ≤ place
  pub within : place < length inside
  pub level : is_level inside (place + 1) ≡ true
  pub first : letters_from inside start ≡ place ∷ letters_from inside (place + 1)
