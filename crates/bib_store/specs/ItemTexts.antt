-- What the values of one item say, and which of them says too much.
use Rattle.std.specs.Prelude.{ℕ, ◌≡◌, nat_lt, List, length, map, find, zip, Option, Some, None, option_map, if◌then◌else◌, All}
use Rattle.bib_spec.specs.Bytes.{name_limit}
use Rattle.bib_spec.specs.Text.{Text, same}
use Rattle.bib_spec.specs.Tree.{Tree, Row, Value, IsRow, IsTree, tree_bytes}
use Rattle.bib_spec.specs.Texts.{Macros, updated, raw_text, raw_limit, field_text, value_places, row_places, raw_texts_in}
use Rattle.bib_spec.specs.Records.{field_of, has_name, crossref}
use Rattle.bib_scan.specs.View.{Field, fields_after}

-- ---- texts with their places

-- the place of the first of these texts that is too long
abbrev pub first_too_long : List (ℕ × Text) → Option ℕ
first_too_long texts = option_map (λ p. p.0) (find (λ p. nat_lt raw_limit (length p.1)) texts)

-- the raw texts of an item's values, each with the place of its value in the body
abbrev pub placed_texts : Macros → Tree → List (ℕ × Text)
placed_texts macros tree = zip (value_places tree) (raw_texts_in macros tree)

-- the raw texts of rows' values, each with the place of its value, if the first row begins at this place
abbrev pub row_texts : ℕ → Macros → List Row → List (ℕ × Text)
row_texts at macros rows = zip (row_places at rows) (map (raw_text macros) (map (λ row. row.assignment.value) rows))

-- the macros by which a definition of this name is read: in it, the name gives nothing
abbrev pub own_text : Macros → Text → Macros
own_text macros name = updated macros name None

-- ---- crossrefs

-- what a value says as a crossref, if its field is one
abbrev pub said_by : Macros → Text → Value → Option Text
said_by macros name v = if same name crossref then Some (field_text (raw_text macros v)) else None

-- what the first crossref of these rows says
abbrev pub crossref_in : Macros → List Row → Option Text
crossref_in macros rows = option_map (λ field. field_text field.raw) (find (has_name crossref) (map (field_of macros) rows))

-- ---- what bytes and fields say

-- it holds of the tree that the bytes say
abbrev pub OfTree : Text → (Tree → Type 0) → Type 0
OfTree body P = (tree : Tree) → IsTree name_limit tree → tree_bytes tree ≡ body → P tree

-- it holds of the rows that have these fields, and of the text before them
abbrev pub OfRows : List Field → (Text → List Row → Type 0) → Type 0
OfRows fields P = (before : Text) (rows : List Row) → All (IsRow name_limit) rows → fields ≡ fields_after before rows → P before rows
