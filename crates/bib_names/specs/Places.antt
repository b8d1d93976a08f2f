-- Places in a text, their depth, and the stretches between them.
use Rattle.std.specs.Prelude.{ℕ, ◌+◌, Bool, ◌==◌, List, [], ◌∷◌, length, drop, filter}
use Rattle.std.specs.List.{range_with_len, slice_range}
use Rattle.bib_spec.specs.Text.{Text, opened_before, closed_before}

-- The place has depth 0: before it as many braces close as open. (btxdoc 4) The braces are counted, so that a text whose braces
-- do not balance has places of depth 0 too.
abbrev pub is_level : Text → ℕ → Bool
is_level text place = opened_before text place == closed_before text place

-- the places that pass a test, in order, among the `count` places from `at` on
abbrev pub places_from : (ℕ → Bool) → ℕ → ℕ → List ℕ
places_from test at count = filter test (range_with_len at count)

-- all places of a text that pass a test, in order
abbrev pub places : (ℕ → Bool) → Text → List ℕ
places test text = places_from test 0 (length text)

-- a stretch of a text, and its place there
pub record Stretch : Type 0 where
  pub at : ℕ
  pub text : Text

-- the stretch that has this text and begins at this place
abbrev pub stretch : ℕ → Text → Stretch
stretch at text = record { at = at; text = text }

-- the stretches from `at` on, where `width` bytes are cut out at each of these places
abbrev pub between : ℕ → Text → ℕ → List ℕ → List Stretch
between width text at [] = stretch at (drop at text) ∷ []
between width text at (place ∷ places) =
    stretch at (slice_range text at place) ∷ between width text (place + width) places
