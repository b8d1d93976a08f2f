-- An entry that is moved: where it then stands, its pieces, and its raw texts there.
use Rattle.std.specs.Prelude.{ℕ, ◌≡◌, ◌≤◌, ◌+◌, ◌⊎◌, nat_lt, Bool, true, false, List, [], ◌∷◌, ◌++◌, if◌then◌else◌}
use Rattle.std.specs.List.{AllByRecursion}
use Rattle.bib_spec.specs.Bytes.{name_limit}
use Rattle.bib_spec.specs.Text.{Text}
use Rattle.bib_spec.specs.Reading.{Reading, IsValueWithin}
use Rattle.bib_spec.specs.Pieces.{Piece}
use Rattle.edit_spec.specs.Edits.{MoveEntry, Moves, last_position, line_end}
use Rattle.bib_scan.specs.View.{Field}
use Rattle.bib_edit.specs.Addressing.{IsHeldAt}
use Rattle.bib_edit.specs.NewEntries.{IsLong, insertion_of}
use Rattle.bib_edit.specs.Removal.{body_at, JoinsCleanly, removal_of}
use Rattle.bib_edit.specs.declared.numbers.Which.{Which}
use Rattle.bib_edit.specs.OneOfSeveral.{IsMeantAt, change}

-- the item before which item n will stand, by old numbers
abbrev pub next_item : ℕ → ℕ → ℕ
next_item n position = if nat_lt position n then position else position + 1

-- an item's body, in a line of its own
abbrev pub line_of : Reading → ℕ → Text
line_of db n = body_at db.items n ++ line_end

-- the body of item n goes, and is put before item `position` of what remains
abbrev pub moved_pieces : Reading → ℕ → ℕ → List Piece
moved_pieces db n position =
    if nat_lt position n
    then insertion_of db position (line_of db n) ∷ removal_of db n ∷ []
    else removal_of db n ∷ insertion_of db (position + 1) (line_of db n) ∷ []

-- the one entry with the key is item n, and can move before item `position` of what remains; no length is looked at
pub record IsMovable (key : Text) (position : ℕ) (db : Reading) (n : ℕ) : Type 0 where
  pub low : position ≤ last_position db (MoveEntry key position)
  pub lone : IsHeldAt key db n
  pub joins : JoinsCleanly db n

-- the same of the entry that a number tells among several
pub record IsOneMovable (key : Which) (position : ℕ) (db : Reading) (n : ℕ) : Type 0 where
  pub low : position ≤ last_position db (change key (Moves position))
  pub meant : IsMeantAt key db n
  pub joins : JoinsCleanly db n

-- each field has a value
abbrev pub FieldsHaveValues : List Field → Type 0
FieldsHaveValues fields = AllByRecursion (λ field. IsValueWithin name_limit field.value) fields

-- none of the fields has a raw text that is too long before item n, or one has
abbrev pub IsFieldLong : Bool → Reading → ℕ → List Field → Type 0
IsFieldLong long db n [] = false ≡ long
IsFieldLong false db n (field ∷ fields) = IsLong false db n field.value × IsFieldLong false db n fields
IsFieldLong true db n (field ∷ fields) = IsLong true db n field.value ⊎ IsFieldLong true db n fields
