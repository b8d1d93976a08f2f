-- The parts of a file, each with its place, and those of them that are sought.
use Rattle.std.specs.Prelude.{ℕ, ◌≡◌, ◌+◌, ◌<◌, ◌^◌, Bool, false, ◌||◌, List, [], ◌∷◌, ◌++◌, if◌then◌else◌, length, map}
use Rattle.std.specs.List.{AllByRecursion, list_any}
use Rattle.bib_spec.specs.Bytes.{hash, name_limit}
use Rattle.bib_spec.specs.Text.{Text}
use Rattle.bib_spec.specs.Tree.{Part, Link, Value, Row, Tree, CommentTree, DefinitionTree, PreambleTree, EntryTree, part_bytes, link_bytes, row_bytes, opening_bytes}
use Rattle.bib_spec.specs.Reading.{Item, IsValueWithin, item_bytes}
use Rattle.bib_spec.specs.Texts.{row_start, bytes_before_value, parts_of}
use Rattle.bib_scan.specs.View.{Field}
use Rattle.bib_value.specs.Raw.{OfValue}
use Rattle.bib_tokens.specs.declared.tokens.Token.{Token}

-- ---- parts with their places

-- the parts of links that begin at this place
abbrev pub links_placed : ℕ → List Link → List (ℕ × Part)
links_placed at [] = []
links_placed at (l ∷ ls) = (at + length (l.space_before_hash ++ hash ∷ l.space_after_hash), l.part) ∷ links_placed (at + length (link_bytes l)) ls

-- the parts of a value that begins at this place
abbrev pub value_placed : ℕ → Value → List (ℕ × Part)
value_placed at v = (at, v.first) ∷ links_placed (at + length (part_bytes v.first)) v.links

-- the parts of rows that begin at this place
abbrev pub rows_placed : ℕ → List Row → List (ℕ × Part)
rows_placed at [] = []
rows_placed at (row ∷ rows) = value_placed (at + length (row_start row)) row.assignment.value ++ rows_placed (at + length (row_bytes row)) rows

-- the parts of an item that begins at this place
abbrev pub tree_placed : ℕ → Tree → List (ℕ × Part)
tree_placed at (CommentTree h) = []
tree_placed at (DefinitionTree d) = value_placed (at + length (opening_bytes d.opening ++ bytes_before_value d.assignment)) d.assignment.value
tree_placed at (PreambleTree p) = value_placed (at + length (opening_bytes p.opening)) p.value
tree_placed at (EntryTree e) = rows_placed (at + length (opening_bytes e.opening ++ (e.key ++ e.space_after_key))) e.rows

-- the parts of items; the first item begins at this place
abbrev pub items_placed : ℕ → List Item → List (ℕ × Part)
items_placed at [] = []
items_placed at (item ∷ items) = tree_placed at item.tree ++ items_placed (at + length (item_bytes item)) items

-- ---- the parts that are sought

-- the place and the bytes of a part
abbrev pub token_at : ℕ × Part → ℕ × Text
token_at placed = (placed.0, part_bytes placed.1)

-- the parts that pass the test, by their places and their bytes
abbrev pub tokens_of : (Part → Bool) → List (ℕ × Part) → List (ℕ × Text)
tokens_of test [] = []
tokens_of test (placed ∷ others) = if test placed.1 then token_at placed ∷ tokens_of test others else tokens_of test others

-- a place and the bytes there, as the code keeps them
abbrev pub token_seen : Token → ℕ × Text
token_seen t = (t.place, t.bytes.now)

-- the tokens as the definitions have them
abbrev pub tokens_seen : List Token → List (ℕ × Text)
tokens_seen ts = map token_seen ts

-- the place after a field's value
abbrev pub field_end : Field → ℕ
field_end field = field.value_at + length field.value

-- the field has a value, and the place after it fits in 64 bits; its item begins at this place
pub record IsPlacedField (start : ℕ) (field : Field) : Type 0 where
  pub value : IsValueWithin name_limit field.value
  pub place : start + field_end field < 2 ^ 64

-- each field of an item that begins at this place is such a field
abbrev pub ArePlacedFields : ℕ → List Field → Type 0
ArePlacedFields start fields = AllByRecursion (IsPlacedField start) fields

-- the tokens of these fields stand after the old ones, where their item begins at this place
abbrev pub AreFieldTokens : (Part → Bool) → ℕ → List Field → List (ℕ × Text) → List (ℕ × Text) → Type 0
AreFieldTokens test start [] old new = new ≡ old
AreFieldTokens test start (field ∷ fields) old new =
    (more : List (ℕ × Text)) × OfValue field.value (λ v. more ≡ old ++ tokens_of test (value_placed (start + field.value_at) v)) × AreFieldTokens test start fields more new

-- whether a part of these fields passes the test
abbrev pub IsMetIn : (Part → Bool) → List Field → Bool → Type 0
IsMetIn test [] met = met ≡ false
IsMetIn test (field ∷ fields) met = (here rest : Bool) × OfValue field.value (λ v. here ≡ list_any test (parts_of v)) × IsMetIn test fields rest × (met ≡ (here || rest))
