-- The uses of macros in the entries of a file, and which definitions they find.
use Rattle.std.specs.Prelude.{ℕ, List, [], take, map, slice_get}
use Rattle.std.specs.List.{flat_map}
use Rattle.std.specs.Option.{option_map_or}
use Rattle.bib_spec.specs.Text.{Text}
use Rattle.bib_spec.specs.Tree.{Row, Tree, CommentTree, DefinitionTree, PreambleTree, EntryTree, value_bytes}
use Rattle.bib_spec.specs.Reading.{Reading}
use Rattle.extract_spec.specs.Extract.{names_in}
use Rattle.bib_definitions.specs.Definitions.{definition_count}

-- ---- uses

-- a use of a macro: the name of the field in which it is, the value of that field, and the name of the macro
pub record Use : Type 0 where
  pub field : Text
  pub value : Text
  pub used : Text

-- the use of a macro in a field with this name and this value
abbrev pub use_in : Text → Text → Text → Use
use_in field value used = record { field = field; value = value; used = used }

-- the uses in a row, in order
abbrev pub uses_in_row : Row → List Use
uses_in_row row = map (use_in row.assignment.name (value_bytes row.assignment.value)) (names_in row.assignment.value)

-- the uses in rows, in order
abbrev pub uses_in : List Row → List Use
uses_in rows = flat_map uses_in_row rows

-- the rows of an entry; other items have none
abbrev pub rows_in : Tree → List Row
rows_in (EntryTree e) = e.rows
rows_in (CommentTree h) = []
rows_in (DefinitionTree d) = []
rows_in (PreambleTree p) = []

-- the rows of item n of a file
abbrev pub rows_at : Reading → ℕ → List Row
rows_at db n = option_map_or (λ item. rows_in item.tree) (slice_get db.items n) []

-- ---- definitions

-- How many definitions of a macro are before item n. A use there finds the last of them, and none if there are none; so two uses find
-- the same definition if they have equally many before them.
abbrev pub defined_before : Reading → ℕ → Text → ℕ
defined_before db n name = definition_count name (take n db.items)
