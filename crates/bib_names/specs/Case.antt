-- The case of a word, which says whether it is a von word.
use Rattle.std.specs.Prelude.{ℕ, ◌+◌, ◌-◌, Bool, false, ◌&&◌, ◌||◌, not, ◌==◌, List, [], ◌∷◌, length, take, drop, slice_index, codes, if◌then◌else◌}
use Rattle.std.specs.List.{range_with_len, slice_range, prefix_len, list_any, find}
use Rattle.std.specs.Char.{is_ascii_alphabetic, is_ascii_lowercase}
use Rattle.std.specs.Option.{option_map_or}
use Rattle.std.specs.Str.{bytes_eq}
use Rattle.bib_spec.specs.Text.{Text}
use Rattle.bib_names.specs.Places.{is_level}
use Rattle.bib_names.specs.Special.{begins_special, next_level}

-- The length of the control sequence at the front of a text, whose backslash is before the text: its letters, or one byte
-- that is no letter. (btxhak 5.4)
abbrev pub sequence_len : Text → ℕ
sequence_len text =
    let letters = prefix_len is_ascii_alphabetic text in
    if letters == 0 && not (length text == 0) then 1 else letters

-- one of these texts is this text, byte for byte
abbrev pub is_one_of : Text → List Text → Bool
is_one_of text texts = list_any (bytes_eq text) texts

-- the control sequences that print a lower-case letter (BibTeX 0.99)
abbrev pub lower_sequences : List Text
lower_sequences =
    codes "i" ∷ codes "j" ∷ codes "oe" ∷ codes "ae" ∷ codes "aa" ∷ codes "o" ∷ codes "l" ∷ codes "ss" ∷ []

-- the control sequences that print an upper-case letter (BibTeX 0.99)
abbrev pub upper_sequences : List Text
upper_sequences = codes "OE" ∷ codes "AE" ∷ codes "AA" ∷ codes "O" ∷ codes "L" ∷ []

-- the first letter is lower case
abbrev pub first_letter_is_lower : Text → Bool
first_letter_is_lower text = option_map_or is_ascii_lowercase (find is_ascii_alphabetic text) false

-- A special character is lower case, given the text between its backslash and its last brace: its control sequence prints a
-- lower-case letter; or the sequence prints no upper-case letter either, and the first letter after it is lower case. (btxhak 5.4)
abbrev pub is_lower_special : Text → Bool
is_lower_special inside =
    let sequence = take (sequence_len inside) inside in
    is_one_of sequence lower_sequences
    || (not (is_one_of sequence upper_sequences)
    && first_letter_is_lower (drop (sequence_len inside) inside))

-- a letter is at the place, at depth 0
abbrev pub is_outer_letter : Text → ℕ → Bool
is_outer_letter word place = is_level word place && is_ascii_alphabetic (slice_index word place)

-- a letter at depth 0, or a special character, decides the case of a word; other groups do not (btxhak 5.4)
abbrev pub decides : Text → ℕ → Bool
decides word place = is_outer_letter word place || begins_special word place

-- the letter or special character at the place is lower case
abbrev pub is_lower_at : Text → ℕ → Bool
is_lower_at word place =
    if begins_special word place then is_lower_special (slice_range word (place + 2) (next_level word place - 1))
    else is_ascii_lowercase (slice_index word place)

-- the first place that decides is lower case
abbrev pub is_lower : Text → Bool
is_lower word = option_map_or (is_lower_at word) (find (decides word) (range_with_len 0 (length word))) false
