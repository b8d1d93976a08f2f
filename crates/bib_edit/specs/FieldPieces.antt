-- The pieces that set a field and drop one, by what is seen of the entry.
use Rattle.std.specs.Prelude.{ℕ, ◌≡◌, ◌+◌, ◌==◌, ◌&&◌, Bool, [], ◌∷◌, ◌++◌, Option, Some, None, length, drop, codes, bytes_eq, find, slice_get}
use Rattle.std.specs.List.{between, last_or}
use Rattle.std.specs.Option.{option_map_or}
use Rattle.bib_spec.specs.Bytes.{close_paren}
use Rattle.bib_spec.specs.Text.{Text}
use Rattle.bib_spec.specs.Reading.{Item}
use Rattle.bib_spec.specs.Pieces.{Piece}
use Rattle.bib_scan.specs.View.{Field, View, view_of}
use Rattle.bib_scan.specs.Layout.{start_of}
use Rattle.bib_store.specs.Readings.{OfReading}
use Rattle.bib_tokens.specs.PlacedParts.{field_end}
use Rattle.bib_edit.specs.Addressing.{item_named, is_field}

-- some key names the item
abbrev pub IsNamedItem : Text → ℕ → Type 0
IsNamedItem file n = (key : Text) × OfReading file (λ db. item_named key db ≡ Some n)

-- the bytes of a new field: `, name = value`, in a line of its own
abbrev pub row_text : Text → Text → Text
row_text name value = codes ",\n  " ++ (name ++ (codes " = " ++ value))

-- the place after the last value, or after the key where there is no field
abbrev pub rows_end : View → ℕ
rows_end view = option_map_or field_end (last_or None view.fields) (view.key_at + length view.key)

-- the value of the field that is there gives way to this one, or a field is put at the end
abbrev pub set_at : ℕ → Text → Text → ℕ → Option Field → Piece
set_at start name value end (Some field) = record { place = start + field.value_at; old = field.value; new = value }
set_at start name value end None = record { place = start + end; old = []; new = row_text name value }

-- the piece that gives the field of this name the value, in an entry that begins at this place
abbrev pub set_piece : ℕ → View → Text → Text → Piece
set_piece start view name value = set_at start name value (rows_end view) (find (is_field name) view.fields)

-- what holds of item n, with the place at which it begins
abbrev pub OfItem : Text → ℕ → (ℕ → View → Type 0) → Type 0
OfItem file n P = OfReading file (λ db. (item : Item) → slice_get db.items n ≡ Some item → P (start_of db n) (view_of item))

-- the field's row goes from its comma to the end of its value, in an item whose body begins at this place
abbrev pub cut_piece : ℕ → Text → Field → Piece
cut_piece start body field = record { place = start + field.start; old = between field.start (field_end field) body; new = [] }

-- without the row, the closing parenthesis would stand directly after the key
abbrev pub joins_key : View → Field → Bool
joins_key view field = (field.start == view.key_at + length view.key) && bytes_eq (drop (field_end field) view.body) (close_paren ∷ [])
