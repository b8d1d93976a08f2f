-- The fields of a record as they are gathered, one after another, with the names that are taken.
use Rattle.std.specs.Prelude.{◌≡◌, ◌≤◌, Bool, ◌||◌, List, [], ◌∷◌, ◌++◌, length, is_some, if◌then◌else◌}
use Rattle.std.specs.List.{list_any}
use Rattle.bib_spec.specs.Bytes.{name_limit}
use Rattle.bib_spec.specs.Text.{Text, folded, same}
use Rattle.bib_spec.specs.Tree.{Row, IsValue, value_bytes}
use Rattle.bib_spec.specs.Reading.{IsValueWithin}
use Rattle.bib_spec.specs.Texts.{Macros, raw_text, raw_limit}
use Rattle.bib_spec.specs.Records as records
use Rattle.bib_spec.specs.Records.{RecordField, record_field, crossref}
use Rattle.bib_scan.specs.View.{Field}
use Rattle.folded_map.specs.FoldedMap.{value_at}
use Rattle.bib_value.specs.Raw.{OfValue}

-- ---- names

-- a field of this name is not added: the name is `crossref`, or one of the fields has it
abbrev pub is_taken : List RecordField → Text → Bool
is_taken fields name = same name crossref || list_any (λ other. same other.0 name) fields

-- the table has the names that are taken
abbrev pub AreTaken : List (Text × Unit {0}) → List RecordField → Type 0
AreTaken names fields = (name : Text) → is_some (value_at names (folded name)) ≡ is_taken fields name

-- ---- fields

-- the fields, and this one if its name is not taken
abbrev pub with_field : List RecordField → records.Field → List RecordField
with_field fields field = if is_taken fields field.name then fields else fields ++ record_field field ∷ []

-- the fields, and these in their order, each unless its name is taken by then
abbrev pub with_fields : List RecordField → List records.Field → List RecordField
with_fields fields [] = fields
with_fields fields (field ∷ others) = with_fields (with_field fields field) others

-- ---- fields as they stand in a file

-- the bytes are a value, and its raw text is not too long
pub record IsShortValue (macros : Macros) (bytes : Text) : Type 0 where
  pub is : IsValueWithin name_limit bytes
  pub short : OfValue bytes (λ v. length (raw_text macros v) ≤ raw_limit)

-- the field has a name that is short enough, and such a value
pub record IsReadable (macros : Macros) (field : Field) : Type 0 where
  pub name : length field.name ≤ name_limit
  pub value : IsShortValue macros field.value

-- the field is that of a row
pub record IsFieldOf (field : Field) (row : Row) : Type 0 where
  pub name : field.name ≡ row.assignment.name
  pub is : IsValue name_limit row.assignment.value
  pub value : value_bytes row.assignment.value ≡ field.value
