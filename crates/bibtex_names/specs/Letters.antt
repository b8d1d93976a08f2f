-- The letters of BibTeX, and groups in braces.
use Rattle.std.specs.Prelude.{ℕ, ◌-◌, Bool, false, ◌||◌, ◌==◌, nat_le, [], ◌∷◌, take, drop}
use Rattle.std.specs.Char.{is_ascii_alphabetic}
use Rattle.bib_spec.specs.Bytes.{open_brace}
use Rattle.bib_spec.specs.Text.{Text}
use Rattle.bib_names.specs.Special.{next_level}

-- a letter: an ASCII letter, or a byte from 0x80 on (bibtex.web 32, with the change for bytes from 0x80 on)
abbrev pub is_letter : ℕ → Bool
is_letter byte = is_ascii_alphabetic byte || nat_le 128 byte

-- the text begins with an opening brace
abbrev pub begins_group : Text → Bool
begins_group [] = false
begins_group (byte ∷ rest) = byte == open_brace

-- how many bytes the group in braces at the front of a text has, with its braces; all bytes if the group is not closed
abbrev pub group_len : Text → ℕ
group_len text = next_level text 0

-- what is in the group at the front of a text
abbrev pub group_inside : Text → Text
group_inside text = take (group_len text - 2) (drop 1 text)

-- the text after the group at its front
abbrev pub after_group : Text → Text
after_group text = drop (group_len text) text
