-- Texts without their commands, braces and signs, as BibTeX sorts them.
use Rattle.std.specs.Prelude.{ℕ, Bool, ◌||◌, ◌==◌, nat_le, nat_lt, List, [], ◌∷◌, ◌++◌, length, take, drop, filter, codes, if◌then◌else◌}
use Rattle.std.specs.List.{flat_map, list_any, take_while}
use Rattle.std.specs.Char.{is_ascii_alphabetic, is_ascii_alphanumeric}
use Rattle.std.specs.Str.{bytes_eq}
use Rattle.bib_spec.specs.Bytes.{space}
use Rattle.bib_spec.specs.Text.{Text, is_space, after_run, folded}
use Rattle.bib_spec.specs.Texts.{onto_first}
use Rattle.bibtex_labels.specs.Pieces.{backslash, pieces}

-- a letter: an ASCII letter, or a byte from 0x80 on (bibtex 32)
abbrev pub is_letter : ℕ → Bool
is_letter byte = is_ascii_alphabetic byte || nat_le 128 byte

-- a letter or a digit
abbrev pub is_alphanumeric : ℕ → Bool
is_alphanumeric byte = is_ascii_alphanumeric byte || nat_le 128 byte

-- a byte that separates words: white space, a tie or a hyphen (bibtex 32)
abbrev pub is_separator : ℕ → Bool
is_separator byte = is_space byte || byte == 126 || byte == 45

-- what is left of a byte outside of special characters: a letter or a digit, or a space for a separator (bibtex 431)
abbrev pub purified_byte : ℕ → Text
purified_byte byte = if is_separator byte then space ∷ [] else if is_alphanumeric byte then byte ∷ [] else []

-- a byte that stays as it is: a letter, a digit or a space
abbrev pub stays : ℕ → Bool
stays byte = is_alphanumeric byte || byte == space

-- the commands that print two foreign letters (bibtex 339)
abbrev pub two_letters : List Text
two_letters = codes "oe" ∷ codes "OE" ∷ codes "ae" ∷ codes "AE" ∷ codes "ss" ∷ []

-- the commands that print one foreign letter (bibtex 339)
abbrev pub one_letter : List Text
one_letter = codes "i" ∷ codes "j" ∷ codes "aa" ∷ codes "AA" ∷ codes "o" ∷ codes "O" ∷ codes "l" ∷ codes "L" ∷ []

-- what is left of a command: of one that prints foreign letters as many of its own, of each other one nothing (bibtex 433)
unfoldable pub foreign_letters : Text → Text
foreign_letters command =
    if list_any (bytes_eq command) two_letters then take 2 command
    else if list_any (bytes_eq command) one_letter then take 1 command
    else []

-- what is left of a text that begins behind a backslash: of the command, and of the text after it the letters and digits
abbrev pub purified_command : Text → Text
purified_command text = foreign_letters (take_while is_letter text) ++ filter is_alphanumeric (after_run is_letter text)

-- the texts between the backslashes
abbrev pub between_backslashes : Text → List Text
between_backslashes [] = [] ∷ []
between_backslashes (byte ∷ text) =
    if byte == backslash then [] ∷ between_backslashes text else onto_first byte (between_backslashes text)

-- what is left of a special character: of each of its commands with the text after it (bibtex 432)
abbrev pub purified_special : Text → Text
purified_special special = flat_map purified_command (between_backslashes (drop 2 special))

-- what is left of a piece; no special character is a single byte
abbrev pub purified_piece : Text → Text
purified_piece piece = if nat_lt 1 (length piece) then purified_special piece else flat_map purified_byte piece

-- a text without commands, braces and signs: `purify$` (bibtex 431)
abbrev pub purified : Text → Text
purified text = flat_map purified_piece (pieces text)

-- the same in lower case: `sortify` of the styles
abbrev pub sortified : Text → Text
sortified text = folded (purified text)
