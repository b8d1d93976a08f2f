-- Definitions, uses and entries of a side, as the code keeps them.
use Rattle.std.specs.Prelude.{ℕ, ◌≡◌, ◌+◌, Bool, List, [], ◌∷◌, ◌++◌, map, Option, Some, None, is_some, unwrap_or, bytes_eq, if◌then◌else◌}
use Rattle.std.specs.List.{list_any}
use Rattle.bib_spec.specs.Text.{Text, folded}
use Rattle.bib_spec.specs.Reading.{Item, Reading}
use Rattle.extract_spec.specs.Extract.{names_in}
use Rattle.bib_scan.specs.View.{Field}
use Rattle.bib_value.specs.Raw.{OfValue}
use Rattle.folded_map.specs.FoldedMap.{value_at}
use Rattle.bib_definitions.specs.Definitions.{is_definition_of}
use Rattle.bib_sayings.specs.FieldTables.{IsTableOfRows}
use Rattle.bib_uses.specs.Uses.{Use, use_in, rows_at}
use Rattle.bib_uses.specs.Lost.{item_named}
use Rattle.bib_uses.specs.declared.uses.UseView.{UseView}
use Rattle.bib_uses.specs.declared.sources.Source.{Source}

-- ---- definitions

-- the defined names, folded, each with the numbers of the items that define it
abbrev pub Numbers : Type 0
Numbers = List (Text × List ℕ)

-- the numbers of a folded name
abbrev pub numbers_of : Numbers → Text → List ℕ
numbers_of defined name = unwrap_or (value_at defined name) []

-- the numbers of the items that define the name, in order, if the first of the items has the number n
abbrev pub numbers_defining : Text → ℕ → List Item → List ℕ
numbers_defining name n [] = []
numbers_defining name n (item ∷ items) = if is_definition_of name item.tree then n ∷ numbers_defining name (n + 1) items else numbers_defining name (n + 1) items

-- the numbers of each name are those of the items that define it
abbrev pub AreDefined : List Item → Numbers → Type 0
AreDefined items defined = (name : Text) → numbers_of defined (folded name) ≡ numbers_defining name 0 items

-- ---- uses

-- with the uses in these fields, the old ones become the new ones
abbrev pub AreAdded : List Field → List Use → List Use → Type 0
AreAdded [] old new = new ≡ old
AreAdded (field ∷ fields) old new = (more : List Use) × OfValue field.value (λ v. more ≡ old ++ map (use_in field.name field.value) (names_in v)) × AreAdded fields more new

-- a use in the code, as a use of the definitions
abbrev pub use_seen : UseView → Use
use_seen u = record { field = u.field.now; value = u.value.now; used = u.used.now }

-- ---- entries

-- the entry is the one that the key finds on the side; if there is none, the key finds none
pub record IsSource (side : Reading) (key : Text) (s : Source) : Type 0 where
  pub item : item_named side key ≡ Some s.item
  pub values : IsTableOfRows s.values (rows_at side s.item)
  pub defined : AreDefined side.items s.defined.now

abbrev pub IsSourceOf : Reading → Text → Option Source → Type 0
IsSourceOf side key None = item_named side key ≡ None
IsSourceOf side key (Some s) = IsSource side key s

-- ---- names that are told

-- the table has these names, and no others
abbrev pub AreTold : List (Text × Bool) → List Text → Type 0
AreTold told names = (name : Text) → is_some (value_at told (folded name)) ≡ list_any (bytes_eq (folded name)) names
