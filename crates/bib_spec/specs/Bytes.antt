-- The bytes that the grammar names, and its limits.
use Rattle.std.specs.Prelude.{ℕ}

-- ---- bytes by name

-- the control character TAB, one of the four bytes of white space (dialect)
abbrev pub tab : ℕ
tab = 9

-- the control character LF, which ends a line and counts as white space (dialect)
abbrev pub line_feed : ℕ
line_feed = 10

-- the control character CR, which counts as white space (dialect)
abbrev pub carriage_return : ℕ
carriage_return = 13

-- the space, which also stands for a whole run of white space in a field text
abbrev pub space : ℕ
space = 32

-- `"`, which opens and closes a quoted text (btxdoc 2.1)
abbrev pub quote : ℕ
quote = 34

-- `#`, which joins two parts of a value (btxdoc 2.1)
abbrev pub hash : ℕ
hash = 35

-- `(`, which may open an item's body in place of a brace
abbrev pub open_paren : ℕ
open_paren = 40

-- `)`, which closes a body that `(` opened
abbrev pub close_paren : ℕ
close_paren = 41

-- `,`, which begins each row of an entry and so separates fields
abbrev pub comma : ℕ
comma = 44

-- the digit `1`
abbrev pub digit_one : ℕ
digit_one = 49

-- `=`, which separates a name from its value
abbrev pub equals_sign : ℕ
equals_sign = 61

-- `@`, with which each item begins
abbrev pub at_sign : ℕ
at_sign = 64

-- the letter `x`
abbrev pub letter_x : ℕ
letter_x = 120

-- `{`, which opens an item's body and a braced text
abbrev pub open_brace : ℕ
open_brace = 123

-- `}`, which closes what `{` opened
abbrev pub close_brace : ℕ
close_brace = 125

-- the control character DEL
abbrev pub delete : ℕ
delete = 127

-- ---- limits

-- the longest name or key, in bytes (dialect)
abbrev pub name_limit : ℕ
name_limit = 255

-- the longest file, in bytes (dialect)
abbrev pub file_limit : ℕ
file_limit = 16777216
