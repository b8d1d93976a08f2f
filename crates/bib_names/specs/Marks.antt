-- The bytes that names and templates give a meaning.
use Rattle.std.specs.Prelude.{ℕ, Bool, ◌&&◌, ◌||◌, ◌==◌, nat_le, nat_lt}
use Rattle.bib_spec.specs.Bytes.{comma, open_brace, close_brace}
use Rattle.bib_spec.specs.Text.{is_space}

-- the hyphen, which joins two words of a name (btxhak 5.4)
abbrev pub hyphen : ℕ
hyphen = 45

-- the period, which is printed after an initial (dialect)
abbrev pub period : ℕ
period = 46

-- the backslash, which follows the brace of a special character (btxdoc 4)
abbrev pub backslash : ℕ
backslash = 92

-- the tie `~`, a space at which TeX breaks no line
abbrev pub tie : ℕ
tie = 126

-- a byte between words: white space, a tie or a hyphen (btxhak 5.4)
abbrev pub is_separator : ℕ → Bool
is_separator byte = is_space byte || byte == tie || byte == hyphen

-- a byte that is dropped at the end of a name: a separator or a comma (BibTeX 0.99)
abbrev pub is_dropped_at_end : ℕ → Bool
is_dropped_at_end byte = is_separator byte || byte == comma

-- an opening or a closing brace
abbrev pub is_brace : ℕ → Bool
is_brace byte = byte == open_brace || byte == close_brace

-- a byte from 0x80 to 0xBF, which in UTF-8 continues the character before it (dialect)
abbrev pub goes_on : ℕ → Bool
goes_on byte = nat_le 128 byte && nat_lt byte 192
