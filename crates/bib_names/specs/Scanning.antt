-- What the private functions find from left to right: where groups, special characters and text characters end, and the
-- commas and text characters that are left from a place on.
use Rattle.std.specs.Prelude.{◌≡◌, ◌<◌, ◌≤◌, ℕ, ◌+◌, ◌-◌, true, false, ◌⊎◌, List, length, slice_index, map}
use Rattle.std.specs.List.{slice_range}
use Rattle.bib_spec.specs.Text.{Text, opened_before, closed_before}
use Rattle.bib_names.specs.Marks.{goes_on}
use Rattle.bib_names.specs.Places.{is_level, places_from}
use Rattle.bib_names.specs.Special.{begins_special, next_level, is_plain, is_joined, begins_char, going_on, char_end}

-- before the place `opened` braces open and `closed` braces close
pub record AreBraces (text : Text) (place opened closed : ℕ) : Type 0 where
  pub opening : opened ≡ opened_before text place
  pub closing : closed ≡ closed_before text place
  pub few_opening : opened ≤ place
  pub few_closing : closed ≤ place

-- ---- special characters

-- the group that begins at the place ends here
pub record IsGroupEnd (text : Text) (place end : ℕ) : Type 0 where
  pub is : end ≡ next_level text place
  pub after : place < end
  pub within : end ≤ length text
  pub level : is_level text end ≡ true

-- the special character that begins at the place ends here
pub record IsSpecial (text : Text) (place end : ℕ) : Type 0 where
  pub begins : begins_special text place ≡ true
  pub ends : IsGroupEnd text place end
  pub long : place + 2 < end

-- ---- text characters

-- The text character at the place ends here: it is a special character, a plain byte with the bytes that continue it, or a
-- continuing byte by itself, which continues nothing.
pub record IsChar (text : Text) (place end : ℕ) : Type 0 where
  pub after : place < end
  pub within : end ≤ length text
  pub kind : IsSpecial text place end
      ⊎ ((begins_special text place ≡ false) × (is_plain (slice_index text place) ≡ true) × (end ≡ place + 1 + going_on text (place + 1)))
      ⊎ ((begins_special text place ≡ false) × (is_plain (slice_index text place) ≡ false) × (goes_on (slice_index text place) ≡ true) × (end ≡ place + 1))

-- a brace is there that begins no special character
pub record IsBareBrace (text : Text) (place : ℕ) : Type 0 where
  pub special : begins_special text place ≡ false
  pub plain : is_plain (slice_index text place) ≡ false
  pub alone : goes_on (slice_index text place) ≡ false

-- no text character goes on at the place: each special character before it has ended, and no byte goes on there
pub record IsFresh (text : Text) (place : ℕ) : Type 0 where
  pub outside : (front : ℕ) → front < place → begins_special text front ≡ true → next_level text front ≤ place
  pub alone : is_joined text place ≡ false

-- a place from which text characters can be read, with the braces before it
pub record IsCharPlace (text : Text) (place opened closed : ℕ) : Type 0 where
  pub within : place ≤ length text
  pub braces : AreBraces text place opened closed
  pub fresh : IsFresh text place

-- the text characters that begin at these places
abbrev pub chars_at : Text → List ℕ → List Text
chars_at text places = map (λ place. slice_range text place (char_end text place)) places

-- the text characters from a place on
abbrev pub chars_from : Text → ℕ → List Text
chars_from text start = chars_at text (places_from (begins_char text) start (length text - start))
