-- The commands of LaTeX that print one letter or sign, and the accents over a letter. (btxdoc; LaTeX; Unicode)
use Rattle.std.specs.Prelude.{ℕ, ◌+◌, Bool, false, ◌==◌, List, [], ◌∷◌, length, take, drop, find, codes, Option, Some, None, option_map, if◌then◌else◌}
use Rattle.std.specs.List.{prefix_len}
use Rattle.std.specs.Option.{option_map_or}
use Rattle.std.specs.Str.{bytes_eq}
use Rattle.std.specs.Char.{is_ascii_alphabetic}
use Rattle.bib_spec.specs.Text.{Text, is_space}
use Rattle.plain_text.specs.declared.signs.Sign.{Sign}
use Rattle.unicode_normalization.specs.Compose.{primary_composite}

-- ---- tables

-- the name of a command after its backslash, and the character that it prints or, for an accent, the combining character
pub record Named : Type 0 where
  pub name : Text
  pub char : ℕ

-- this name and this character
abbrev pub named : Text → ℕ → Named
named name char = record { name = name; char = char }

-- the commands that print a sign or a letter: & % $ # _ { } ø Ø ł Ł ß æ Æ œ Œ å Å ı ȷ, and by their names { } ~ ^ \
abbrev pub letters : List Named
letters =
    named (codes "&") 38 ∷ named (codes "%") 37 ∷ named (codes "$") 36 ∷ named (codes "#") 35 ∷ named (codes "_") 95
    ∷ named (codes "{") 123 ∷ named (codes "}") 125
    ∷ named (codes "o") 248 ∷ named (codes "O") 216 ∷ named (codes "l") 322 ∷ named (codes "L") 321 ∷ named (codes "ss") 223
    ∷ named (codes "ae") 230 ∷ named (codes "AE") 198 ∷ named (codes "oe") 339 ∷ named (codes "OE") 338
    ∷ named (codes "aa") 229 ∷ named (codes "AA") 197 ∷ named (codes "i") 305 ∷ named (codes "j") 567
    ∷ named (codes "textbraceleft") 123 ∷ named (codes "textbraceright") 125 ∷ named (codes "textasciitilde") 126
    ∷ named (codes "textasciicircum") 94 ∷ named (codes "textbackslash") 92 ∷ []

-- The accents, each with Unicode's combining character: acute, grave, circumflex, diaeresis, tilde, macron, dot above, cedilla,
-- double acute, caron, breve, dot below, line below, tie.
abbrev pub accents : List Named
accents =
    named (codes "'") 769 ∷ named (codes "`") 768 ∷ named (codes "^") 770 ∷ named (codes "\"") 776 ∷ named (codes "~") 771
    ∷ named (codes "=") 772 ∷ named (codes ".") 775 ∷ named (codes "c") 807 ∷ named (codes "H") 779 ∷ named (codes "v") 780
    ∷ named (codes "u") 774 ∷ named (codes "d") 803 ∷ named (codes "b") 817 ∷ named (codes "t") 865 ∷ []

-- the character of this name in a table
abbrev pub char_of : List Named → Text → Option ℕ
char_of table name = option_map (λ n. n.char) (find (λ n. bytes_eq name n.name) table)

-- ---- commands

-- how many bytes the name of a command takes, after its backslash: its letters, or one byte that is no letter
abbrev pub name_len : Text → ℕ
name_len [] = 0
name_len (b ∷ t) = if is_ascii_alphabetic b then prefix_len is_ascii_alphabetic (b ∷ t) else 1

-- the name of a command, after its backslash
abbrev pub name_of : Text → Text
name_of text = take (name_len text) text

-- the text after the name
abbrev pub after_name : Text → Text
after_name text = drop (name_len text) text

-- the name is made of letters
abbrev pub is_word : Text → Bool
is_word [] = false
is_word (b ∷ t) = is_ascii_alphabetic b

-- this character, said by so many bytes
abbrev pub sign : ℕ → ℕ → Sign
sign taken char = record { taken = taken; char = char }

-- ---- accented letters

-- after a backslash: the i or j that has no dot, which counts as i or j under an accent
abbrev pub dotless : Text → Option Sign
dotless name =
    if bytes_eq name (codes "i") then Some (sign 2 105)
    else if bytes_eq name (codes "j") then Some (sign 2 106) else None

-- a letter at the front of the text, or one without its dot
abbrev pub bare_letter : Text → Option Sign
bare_letter [] = None
bare_letter (b ∷ t) =
    if is_ascii_alphabetic b then Some (sign 1 b) else if b == 92 then dotless (name_of t) else None

-- the text begins with this byte
abbrev pub begins_with : ℕ → Text → Bool
begins_with byte [] = false
begins_with byte (b ∷ t) = b == byte

-- the letter, if a closing brace follows it
abbrev pub closed : Text → Option Sign → Option Sign
closed text None = None
closed text (Some l) = if begins_with 125 (drop l.taken text) then Some (sign (l.taken + 2) l.char) else None

-- a letter at the front of the text, alone or in braces
abbrev pub letter_at : Text → Option Sign
letter_at [] = None
letter_at (b ∷ t) = if b == 123 then closed t (bare_letter t) else bare_letter (b ∷ t)

-- the letter with the accent, if Unicode has both as one character; before it were so many bytes
abbrev pub composed : ℕ → ℕ → Option Sign → Option Sign
composed before accent None = None
composed before accent (Some l) = option_map (sign (before + l.taken)) (primary_composite l.char accent)

-- the accent over the letter that comes next, after white space; before the text were so many bytes
abbrev pub over_letter : ℕ → ℕ → Text → Option Sign
over_letter before accent text =
    composed (before + prefix_len is_space text) accent (letter_at (drop (prefix_len is_space text) text))

-- an accented letter, after the backslash and the name of an accent
abbrev pub accented : Text → Text → Option Sign
accented name text = option_map_or (λ accent. over_letter (length name + 1) accent text) (char_of accents name) None

-- white space after a command of letters belongs to it
abbrev pub space_after : Text → Text → ℕ
space_after name text = if is_word name then prefix_len is_space text else 0

-- what a command prints, after its backslash, if it is one letter or sign
abbrev pub command_sign : Text → Text → Option Sign
command_sign name text =
    option_map_or (λ char. Some (sign (length name + 1 + space_after name text) char)) (char_of letters name) (accented name text)

-- the one letter or sign that stands at the front of the text, if it is written otherwise: a tie prints a space
abbrev pub sign_at : Text → Option Sign
sign_at [] = None
sign_at (b ∷ t) = if b == 126 then Some (sign 1 32) else if b == 92 then command_sign (name_of t) (after_name t) else None
