-- An item's fields by its view, and by its tree.
use Rattle.std.specs.Prelude.{ℕ, ◌≡◌, ◌≤◌, List, Some, length, slice_get}
use Rattle.std.specs.List.{AllByRecursion, AllZip}
use Rattle.bib_spec.specs.Bytes.{name_limit}
use Rattle.bib_spec.specs.Text.{Text}
use Rattle.bib_spec.specs.Records.{EntryTexts, entries_of}
use Rattle.bib_spec.specs.Tree.{IsValue, value_bytes}
use Rattle.bib_spec.specs.Reading.{IsValueWithin}
use Rattle.bib_spec.specs.Reading.{Item, Reading}
use Rattle.bib_scan.specs.View.{View, Field, view_of}
use Rattle.bib_answers.specs.Check.{Assigned}

-- this is the view of item n
abbrev pub Views : Reading → ℕ → View → Type 0
Views db n view = (item : Item) → slice_get db.items n ≡ Some item → view ≡ view_of item

-- entry n has this key
abbrev pub IsKeyOf : Reading → ℕ → Text → Type 0
IsKeyOf db n key = (entry : EntryTexts) × (slice_get (entries_of db) n ≡ Some entry) × (entry.key ≡ key)

-- the field has this name and the bytes of this value
pub record IsFieldOf (a : Assigned) (field : Field) : Type 0 where
  pub name : field.name ≡ a.0
  pub short : length a.0 ≤ name_limit
  pub value : IsValue name_limit a.1
  pub bytes : value_bytes a.1 ≡ field.value

-- the fields have these names and the bytes of these values
abbrev pub AreFieldsOf : List Assigned → List Field → Type 0
AreFieldsOf = AllZip IsFieldOf

-- the field's name is no longer than a name may be, and its value's bytes are a value
pub record IsSound (field : Field) : Type 0 where
  pub short : length field.name ≤ name_limit
  pub value : IsValueWithin name_limit field.value

-- each of the fields is so
abbrev pub AreSound : List Field → Type 0
AreSound = AllByRecursion IsSound
