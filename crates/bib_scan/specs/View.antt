-- What a view of an item shows: the parts of its tree, as bytes, with their places in the body.
use Rattle.std.specs.Prelude.{ℕ, List, [], ◌∷◌, ◌++◌, length}
use Rattle.bib_spec.specs.Bytes.{comma, equals_sign}
use Rattle.bib_spec.specs.Text.{Text}
use Rattle.bib_spec.specs.Tree as tree
use Rattle.bib_spec.specs.Tree.{Tree, CommentTree, DefinitionTree, PreambleTree, EntryTree, Row, value_bytes, row_bytes, opening_bytes, tree_bytes}
use Rattle.bib_spec.specs.Reading.{Item}
use Rattle.bib_scan.specs.declared.fields.FieldView.{FieldView}
use Rattle.bib_scan.specs.declared.view.Kind.{Kind}
use Rattle.bib_scan.specs.declared.view.Kind.TheVariants as kind

-- A field: its name, its value's bytes, and the places of its row, its name and its value.
pub record Field : Type 0 where
  pub name : Text
  pub value : Text
  pub start : ℕ
  pub name_at : ℕ
  pub value_at : ℕ

-- the field of an assignment with this text before it, in a row that begins at start
abbrev pub field_after : ℕ → Text → tree.Assignment → Field
field_after start before a = record {
  name = a.name;
  value = value_bytes a.value;
  start = start;
  name_at = length before;
  value_at = length (before ++ a.name ++ a.space_before_equals ++ equals_sign ∷ a.space_before_value);
}

-- the fields of rows with this text before them; each row comes after the rows before it
abbrev pub fields_after : Text → List Row → List Field
fields_after before [] = []
fields_after before (r ∷ rows) =
    field_after (length before) (before ++ comma ∷ r.space_before_name) r.assignment ∷ fields_after (before ++ row_bytes r) rows

-- The fields of an entry are its rows. A macro definition has one field, its name and value. A preamble has one field with
-- an empty name. These two have no row, so the field begins at the name, or at the value. (btxdoc 2.1, 3)
abbrev pub fields_of : Tree → List Field
fields_of (CommentTree h) = []
fields_of (DefinitionTree d) =
    field_after (length (opening_bytes d.opening)) (opening_bytes d.opening) d.assignment ∷ []
fields_of (PreambleTree p) =
    let place = length (opening_bytes p.opening) in
    record { name = []; value = value_bytes p.value; start = place; name_at = place; value_at = place } ∷ []
fields_of (EntryTree e) = fields_after (opening_bytes e.opening ++ e.key ++ e.space_after_key) e.rows

-- which of the four kinds the item is
abbrev pub kind_of : Tree → Kind
kind_of (CommentTree h) = kind.Comment
kind_of (DefinitionTree d) = kind.Macro
kind_of (PreambleTree p) = kind.Preamble
kind_of (EntryTree e) = kind.Entry

-- the item's at-sign and type name
abbrev pub head_of : Tree → tree.Head
head_of (CommentTree h) = h
head_of (DefinitionTree d) = d.opening.head
head_of (PreambleTree p) = p.opening.head
head_of (EntryTree e) = e.opening.head

-- the key of an entry, and the empty text for other items
abbrev pub key_of : Tree → Text
key_of (CommentTree h) = []
key_of (DefinitionTree d) = []
key_of (PreambleTree p) = []
key_of (EntryTree e) = e.key

-- the place of an entry's key in its body, and 0 for other items
abbrev pub key_place : Tree → ℕ
key_place (CommentTree h) = 0
key_place (DefinitionTree d) = 0
key_place (PreambleTree p) = 0
key_place (EntryTree e) = length (opening_bytes e.opening)

-- what a view shows of an item
pub record View : Type 0 where
  pub kind : Kind
  pub body : Text
  pub trail : Text
  pub type_name : Text
  pub key : Text
  pub key_at : ℕ
  pub fields : List Field

-- the view of an item: the parts of its tree, and its trail
abbrev pub view_of : Item → View
view_of item = record {
  kind = kind_of item.tree;
  body = tree_bytes item.tree;
  trail = item.trail;
  type_name = (head_of item.tree).type_name;
  key = key_of item.tree;
  key_at = key_place item.tree;
  fields = fields_of item.tree;
}

-- the view with another trail
abbrev pub with_trail : View → Text → View
with_trail v trail = record v { trail = trail }

-- a field of the code, as a field of the definitions
abbrev pub field_seen : FieldView → Field
field_seen f = record { name = f.name.now; value = f.value.now; start = f.start; name_at = f.name_at; value_at = f.value_at }
