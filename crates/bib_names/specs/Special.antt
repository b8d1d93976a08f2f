-- Special characters and text characters.
use Rattle.std.specs.Prelude.{ℕ, zero, suc, ◌+◌, ◌-◌, Bool, false, ◌&&◌, ◌||◌, not, ◌==◌, nat_lt, List, length, drop, slice_index, map, if◌then◌else◌}
use Rattle.std.specs.List.{range_with_len, slice_range, prefix_len, list_any}
use Rattle.bib_spec.specs.Bytes.{open_brace}
use Rattle.bib_spec.specs.Text.{Text}
use Rattle.bib_names.specs.Marks.{backslash, is_brace, goes_on}
use Rattle.bib_names.specs.Places.{is_level, places}

-- the first place of depth 0 after this one, or the end
abbrev pub next_level : Text → ℕ → ℕ
next_level text place =
    place + 1 + prefix_len (λ p. not (is_level text p)) (range_with_len (place + 1) (length text - (place + 1)))

-- an opening brace is at the place, and a backslash after it
abbrev pub is_opening : Text → ℕ → Bool
is_opening text place = slice_index text place == open_brace && slice_index text (place + 1) == backslash

-- A special character begins here: at depth 0, with a brace and a backslash (btxdoc 4). Its brace is closed (dialect).
abbrev pub begins_special : Text → ℕ → Bool
begins_special text place =
    is_level text place && is_opening text place && is_level text (next_level text place)

-- the place lies in a special character, after its first byte
abbrev pub is_within_special : Text → ℕ → Bool
is_within_special text place =
    list_any (λ front. begins_special text front && nat_lt place (next_level text front)) (range_with_len 0 place)

-- a byte that begins a text character by itself: no brace, and no byte that continues a character
abbrev pub is_plain : ℕ → Bool
is_plain byte = not (is_brace byte || goes_on byte)

-- the byte there continues the character before it (dialect)
abbrev pub is_joined : Text → ℕ → Bool
is_joined text zero = false
is_joined text (suc place) =
    goes_on (slice_index text (suc place)) && (is_plain (slice_index text place) || is_joined text place)

-- A text character begins here: a special character, or outside of these a byte that is no brace (btxhak 5.3) and does
-- not continue the character before it (dialect).
abbrev pub begins_char : Text → ℕ → Bool
begins_char text place =
    begins_special text place
    || (not (is_within_special text place) && not (is_brace (slice_index text place)) && not (is_joined text place))

-- how many bytes from the place on continue a character
abbrev pub going_on : Text → ℕ → ℕ
going_on text place = prefix_len goes_on (drop place text)

-- where the text character at the place ends: a special character with its brace, a plain byte with the bytes that continue it
abbrev pub char_end : Text → ℕ → ℕ
char_end text place =
    if begins_special text place then next_level text place
    else if is_plain (slice_index text place) then place + 1 + going_on text (place + 1)
    else place + 1

-- the text characters of a text: all its characters, special ones too, except ordinary braces (btxhak 5.3)
abbrev pub text_chars : Text → List Text
text_chars text = map (λ place. slice_range text place (char_end text place)) (places (begins_char text) text)
