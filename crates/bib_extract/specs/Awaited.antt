-- The names of macros that are still to be defined, in a map.
use Rattle.std.specs.Prelude.{◌≡◌, Bool, ◌||◌, List, [], ◌∷◌, is_some}
use Rattle.std.specs.List.{AllByRecursion, list_any}
use Rattle.bib_spec.specs.Bytes.{name_limit}
use Rattle.bib_spec.specs.Text.{Text, folded, same}
use Rattle.bib_spec.specs.Reading.{IsValueWithin}
use Rattle.bib_scan.specs.View.{Field}
use Rattle.bib_value.specs.Raw.{OfValue}
use Rattle.folded_map.specs.FoldedMap.{value_at}
use Rattle.extract_spec.specs.Extract.{names_in}

-- a map, as the list of its names with their values
abbrev pub Map : Type 0
Map = List (Text × Bool)

-- the map has the name, folded
abbrev pub has : Map → Text → Bool
has map name = is_some (value_at map (folded name))

-- the map has these names, and no others
abbrev pub HasNames : Map → List Text → Type 0
HasNames map names = (name : Text) → has map name ≡ list_any (same name) names

-- the map has these names now, and those that it had
abbrev pub Gains : List Text → Map → Map → Type 0
Gains used old new = (name : Text) → has new name ≡ (list_any (same name) used || has old name)

-- the map has the names that these fields use now, and those that it had
abbrev pub GainsFrom : List Field → Map → Map → Type 0
GainsFrom [] old new = new ≡ old
GainsFrom (field ∷ fields) old new = (more : Map) × OfValue field.value (λ v. Gains (names_in v) old more) × GainsFrom fields more new

-- each field has a value
abbrev pub HaveValues : List Field → Type 0
HaveValues fields = AllByRecursion (λ (field : Field). IsValueWithin name_limit field.value) fields
