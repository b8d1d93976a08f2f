-- The piece that gives an entry another type, by what is seen of the entry.
use Rattle.std.specs.Prelude.{ℕ, ◌+◌, ◌==◌, ◌||◌, nat_le, Bool}
use Rattle.std.specs.List.{prefix_len}
use Rattle.bib_spec.specs.Bytes.{at_sign, space}
use Rattle.bib_spec.specs.Text.{Text}
use Rattle.bib_spec.specs.Pieces.{Piece}
use Rattle.bib_scan.specs.View.{View}

-- no type begins with the byte: it is the at-sign, the space or a byte below it
abbrev pub stands_before_type : ℕ → Bool
stands_before_type b = b == at_sign || nat_le b space

-- the place of the type in a body
abbrev pub type_place : Text → ℕ
type_place body = prefix_len stands_before_type body

-- the type of an entry that begins at this place gives way to this one
abbrev pub type_piece : ℕ → View → Text → Piece
type_piece start view kind_name = record { place = start + type_place view.body; old = view.type_name; new = kind_name }
