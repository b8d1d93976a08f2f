-- The texts of an entry by the names of their fields, as they are gathered from one field after another.
use Rattle.std.specs.Prelude.{◌≡◌, ◌≤◌, List, length, Option, Some, None, if◌then◌else◌, option_map, find, map}
use Rattle.std.specs.List.{AllZip, AllByRecursion}
use Rattle.std.specs.Option.{option_or}
use Rattle.bib_spec.specs.Bytes.{name_limit}
use Rattle.bib_spec.specs.Text.{Text, folded, same}
use Rattle.bib_spec.specs.Tree.{Row}
use Rattle.bib_spec.specs.Texts.{Macros, field_text}
use Rattle.bib_spec.specs.Records as records
use Rattle.bib_spec.specs.Records.{EntryTexts, has_name, field_of}
use Rattle.bib_scan.specs.View.{Field}
use Rattle.folded_map.specs.FoldedMap.{value_at}
use Rattle.bib_store.specs.Gathering.{IsFieldOf}
use Rattle.diff_spec.specs.Agreement.{text_at}

-- texts by folded names
abbrev pub Map : Type 0
Map = List (Text × Text)

-- the field text of the first of these fields that has this name, if there is one
abbrev pub first_text : Text → List records.Field → Option Text
first_text name fields = option_map (λ field. field_text field.raw) (find (has_name name) fields)

-- the map has the first text of each name, and no others
abbrev pub AreTextsOf : List records.Field → Map → Type 0
AreTextsOf fields texts = (name : Text) → value_at texts (folded name) ≡ first_text name fields

-- the map with this text for this name, if the name had none
abbrev pub IsWithText : Map → Text → Text → Map → Type 0
IsWithText old name text new = (other : Text) → value_at new (folded other) ≡ option_or (value_at old (folded other)) (if same name other then Some text else None)

-- each field has a name that is short enough
abbrev pub HaveShortNames : List Field → Type 0
HaveShortNames fields = AllByRecursion (λ (field : Field). length field.name ≤ name_limit) fields

-- the fields are these rows, whose texts by these macros the map has
abbrev pub AreTextsOfRows : Macros → List Field → Map → Type 0
AreTextsOfRows macros fields texts = (rows : List Row) → AllZip IsFieldOf fields rows → AreTextsOf (map (field_of macros) rows) texts

-- the map has the texts of this entry
abbrev pub AreTextsOfEntry : EntryTexts → Map → Type 0
AreTextsOfEntry entry texts = (name : Text) → value_at texts (folded name) ≡ text_at name entry
