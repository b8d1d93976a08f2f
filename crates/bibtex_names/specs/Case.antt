-- The case of a word, which says whether it is a von word.
use Rattle.std.specs.Prelude.{ℕ, ◌+◌, ◌-◌, Bool, false, ◌&&◌, ◌||◌, not, length, slice_index, if◌then◌else◌}
use Rattle.std.specs.List.{range_with_len, slice_range, take_while, find}
use Rattle.std.specs.Char.{is_ascii_lowercase}
use Rattle.std.specs.Option.{option_map_or}
use Rattle.bib_spec.specs.Text.{Text, after_run}
use Rattle.bib_names.specs.Special.{begins_special, next_level}
use Rattle.bib_names.specs.Case.{is_one_of, lower_sequences, upper_sequences, first_letter_is_lower, decides}
use Rattle.bibtex_names.specs.Letters.{is_letter}

-- A special character is lower case, given the text between its backslash and its last brace. Its control sequence is the letters
-- after the backslash. It prints a lower-case letter; or it prints no upper-case letter either, and the first ASCII letter after it
-- is lower case. (bibtex.web 398, 399)
abbrev pub is_lower_special : Text → Bool
is_lower_special inside =
    let sequence = take_while is_letter inside in
    is_one_of sequence lower_sequences
    || (not (is_one_of sequence upper_sequences) && first_letter_is_lower (after_run is_letter inside))

-- the letter or special character at the place is lower case
abbrev pub is_lower_at : Text → ℕ → Bool
is_lower_at word place =
    if begins_special word place then is_lower_special (slice_range word (place + 2) (next_level word place - 1))
    else is_ascii_lowercase (slice_index word place)

-- the first place that decides is lower case: an ASCII letter outside of braces, or a special character (bibtex.web 397)
abbrev pub is_lower : Text → Bool
is_lower word = option_map_or (is_lower_at word) (find (decides word) (range_with_len 0 (length word))) false
