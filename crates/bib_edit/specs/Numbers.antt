-- A name with a number, which tells which of several is meant. (dialect)
use Rattle.std.specs.Prelude.{ℕ, ◌+◌, ◌-◌, ◌*◌, ◌&&◌, ◌==◌, not, nat_le, Bool, false, if◌then◌else◌, length, take, drop, Option, Some, None, fold}
use Rattle.std.specs.List.{prefix_len, list_all}
use Rattle.std.specs.Char.{is_ascii_digit}
use Rattle.bib_spec.specs.Bytes.{comma}
use Rattle.bib_spec.specs.Text.{Text, does_not_begin_with}
use Rattle.edit_spec.specs.Edits as edits
use Rattle.bib_edit.specs.declared.numbers.Which.{Which}

-- the number that one more digit makes of a number
abbrev pub with_digit : ℕ → ℕ → ℕ
with_digit n digit = n * 10 + (digit - 48)

-- 1 to 9 digits, of which the first is not 0
abbrev pub is_number : Text → Bool
is_number digits = (nat_le 1 (length digits) && nat_le (length digits) 9) && (list_all is_ascii_digit digits && does_not_begin_with (λ b. b == 48) digits)

-- the number that these digits say
abbrev pub number_said : Text → Option ℕ
number_said digits = if is_number digits then Some (fold with_digit 0 digits) else None

-- how many bytes come before the first comma
abbrev pub name_len : Text → ℕ
name_len text = prefix_len (λ b. not (b == comma)) text

-- the bytes after the first comma
abbrev pub after_comma : Text → Text
after_comma text = drop (name_len text + 1) text

-- a name, a comma and a number; a comma is in no key, and in no name of a field or macro
abbrev pub is_numbered : Text → Bool
is_numbered text = is_number (after_comma text)

-- the text, if there is one, has a number
abbrev pub has_number : Option Text → Bool
has_number None = false
has_number (Some text) = is_numbered text

-- Which is meant: `b,2` means the second of those that have the name `b`. A text without such a number means the only one that has
-- that name.
abbrev pub which_of : Text → edits.Which
which_of text =
    if is_numbered text then record { name = take (name_len text) text; number = Some (fold with_digit 0 (after_comma text) - 1) }
    else record { name = text; number = None }

-- the same in the words of the definitions
abbrev pub which_seen : Which → edits.Which
which_seen which = record { name = which.name.now; number = which.number }
