-- An entry to be added: how its fields are judged, and what is written.
use Rattle.std.specs.Prelude.{ℕ, ◌≡◌, ◌<◌, nat_lt, Bool, true, false, List, [], ◌∷◌, ◌++◌, Some, slice_get, length, map, codes}
use Rattle.std.specs.List.{flat_map}
use Rattle.bib_spec.specs.Bytes.{name_limit}
use Rattle.bib_spec.specs.Text.{Text}
use Rattle.bib_spec.specs.Pieces.{Piece}
use Rattle.bib_scan.specs.Layout.{start_of}
use Rattle.bib_spec.specs.Reading.{Reading, IsValueWithin}
use Rattle.bib_spec.specs.Texts.{months, macros_at, raw_text, raw_limit}
use Rattle.bib_value.specs.Raw.{OfValue}
use Rattle.bib_data.specs.declared.edit.NewEntry.{NewEntry}

-- the names of fields
abbrev pub names_of : List (Text × Text) → List Text
names_of fields = map (λ field. field.0) fields

-- the first n fields have values
abbrev pub HaveValuesTo : List (Text × Text) → ℕ → Type 0
HaveValuesTo fields n = (k : ℕ) (field : Text × Text) → k < n → slice_get fields k ≡ Some field → IsValueWithin name_limit field.1

-- each field has a value
abbrev pub HaveValues : List (Text × Text) → Type 0
HaveValues fields = HaveValuesTo fields (length fields)

-- the value's raw text is, or is not, too long before item n
abbrev pub IsLong : Bool → Reading → ℕ → Text → Type 0
IsLong long db n value = OfValue value (λ v. nat_lt raw_limit (length (raw_text (macros_at months db.items n) v)) ≡ long)

-- none of the first k fields has a raw text that is too long, before item n
abbrev pub AreShortTo : Reading → ℕ → List (Text × Text) → ℕ → Type 0
AreShortTo db n fields k = (j : ℕ) (field : Text × Text) → j < k → slice_get fields j ≡ Some field → IsLong false db n field.1

-- none of the fields has a raw text that is too long, or one has
abbrev pub IsAnyLong : Bool → Reading → ℕ → List (Text × Text) → Type 0
IsAnyLong false db n fields = AreShortTo db n fields (length fields)
IsAnyLong true db n fields = (j : ℕ) × (field : Text × Text) × (slice_get fields j ≡ Some field) × IsLong true db n field.1

-- a field in a line of its own
abbrev pub field_line : Text × Text → Text
field_line field = codes ",\n  " ++ field.0 ++ codes " = " ++ field.1

-- the fields, each in a line of its own
abbrev pub lines_of : List (Text × Text) → Text
lines_of fields = flat_map field_line fields

-- the line's end before the close, where there are fields
abbrev pub line_before_close : List (Text × Text) → Text
line_before_close [] = []
line_before_close (field ∷ fields) = codes "\n"

-- an entry as it is written, with the line's end after it
abbrev pub entry_text : NewEntry → Text
entry_text new = codes "@" ++ new.kind_name ++ codes "{" ++ new.key ++ lines_of new.fields ++ line_before_close new.fields ++ codes "}\n"

-- the entry is put in before item n, or after the last
abbrev pub insertion_of : Reading → ℕ → Text → Piece
insertion_of db n text = record { place = start_of db n; old = []; new = text }
