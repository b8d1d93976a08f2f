-- The opening of an entry with another type.
use Rattle.std.specs.Prelude.{ℕ, ◌==◌, ◌||◌, nat_le, Bool}
use Rattle.std.specs.List.{prefix_len}
use Rattle.bib_spec.specs.Bytes.{at_sign, space}
use Rattle.bib_spec.specs.Text.{Text}
use Rattle.bib_spec.specs.Tree.{Head, Opening}

-- no type begins with the byte: it is the at-sign, the space or a byte below it
abbrev pub stands_before_type : ℕ → Bool
stands_before_type b = b == at_sign || nat_le b space

-- the place of the type in a body
abbrev pub type_place : Text → ℕ
type_place body = prefix_len stands_before_type body

-- the opening with this type in the place of its own
abbrev pub opening_with : Opening → Text → Opening
opening_with opening kind = let head : Head = opening.head in record opening { head = record head { type_name = kind } }
