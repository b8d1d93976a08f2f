-- The units of a file in the code.
use Rattle.std.specs.Prelude.{ℕ, ◌≡◌, List, Option, None, Some, slice_get}
use Rattle.std.specs.List.{AllZip}
use Rattle.bib_spec.specs.Reading.{Item, Reading}
use Rattle.bib_spec.specs.Texts.{months, macros_at}
use Rattle.merge_spec.specs.Units.{Unit, Spaced, unit_bytes, label_of}
use Rattle.bib_units.specs.Labels.{label_seen}
use Rattle.bib_units.specs.declared.unit_view.UnitView.{UnitView}

-- the item has this number in the file
abbrev pub IsItemAt : Reading → ℕ → Item → Type 0
IsItemAt r n item = slice_get r.items n ≡ Some item

-- the unit is item n of the file, as it is there
pub record IsUnitOfItem (r : Reading) (n : ℕ) (unit : Unit) : Type 0 where
  pub item : Item
  pub at : IsItemAt r n item
  pub tree : unit.tree ≡ Some item.tree
  pub macros : unit.macros ≡ macros_at months r.items n

-- the unit is the item with this number, or a text between items if there is no number
abbrev pub HasItem : Reading → Option ℕ → Unit → Type 0
HasItem r None unit = unit.tree ≡ None
HasItem r (Some n) unit = IsUnitOfItem r n unit

-- the unit of the code is this unit of the file, with the white space after it
pub record IsUnit (r : Reading) (view : UnitView) (s : Spaced) : Type 0 where
  pub item : HasItem r view.item s.unit
  pub label : label_seen view.label ≡ label_of s.unit
  pub bytes : view.bytes.now ≡ unit_bytes s.unit
  pub space : view.space.now ≡ s.space

-- the units of the code are these units of the file, in order
abbrev pub AreUnits : Reading → List UnitView → List Spaced → Type 0
AreUnits r views units = AllZip (IsUnit r) views units
