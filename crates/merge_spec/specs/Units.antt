-- The units of a file: what a merge keeps, takes or puts aside as a whole.
use Rattle.std.specs.Prelude.{Bool, false, not, List, [], ◌∷◌, ◌++◌, take, drop, map, Option, Some, None, bytes_eq, if◌then◌else◌}
use Rattle.std.specs.List.{prefix_len}
use Rattle.std.specs.Option.{option_map_or}
use Rattle.bib_spec.specs.Text.{Text, is_space, folded, after_run}
use Rattle.bib_spec.specs.Tree.{Head, Tree, CommentTree, DefinitionTree, PreambleTree, EntryTree, tree_bytes}
use Rattle.bib_spec.specs.Reading.{Item, Reading}
use Rattle.bib_spec.specs.Texts.{Macros, is_empty, months, macros_after}
use Rattle.bib_text.specs.Trimming.{up_to_last, before_run}

-- ---- white space at the ends of a text

-- the white space with which the text begins
abbrev pub front_space : Text → Text
front_space t = take (prefix_len is_space t) t

-- the white space with which the text ends
abbrev pub end_space : Text → Text
end_space t = drop (up_to_last (λ b. not (is_space b)) t) t

-- ---- units

-- An item, or a text between items. To a comment belongs the text after it, except for the white space at that text's end; the
-- text of any other item is empty. (dialect)
pub record Unit : Type 0 where
  pub tree : Option Tree
  pub text : Text
  -- what macros stand for before the unit
  pub macros : Macros

-- the bytes of a unit
abbrev pub unit_bytes : Unit → Text
unit_bytes u = option_map_or tree_bytes u.tree [] ++ u.text

-- a unit with the white space after it
pub record Spaced : Type 0 where
  pub unit : Unit
  pub space : Text

-- the bytes of a unit and of the white space after it
abbrev pub spaced_bytes : Spaced → Text
spaced_bytes s = unit_bytes s.unit ++ s.space

-- an item that is no comment, with this white space after it
abbrev pub item_unit : Macros → Tree → Text → Spaced
item_unit macros tree space = record { unit = record { tree = Some tree; text = []; macros = macros }; space = space }

-- a comment with its text, and the white space after it
abbrev pub comment_unit : Macros → Head → Text → Spaced
comment_unit macros head trail = record {
  unit = record { tree = Some (CommentTree head); text = before_run is_space trail; macros = macros };
  space = end_space trail;
}

-- the text between items as a unit, without the white space at its ends, if anything is left of it
abbrev pub text_units : Macros → Text → List Spaced
text_units macros t =
    let rest = after_run is_space t in
    if is_empty rest then [] else record { unit = record { tree = None; text = before_run is_space rest; macros = macros }; space = end_space rest } ∷ []

-- the units of an item: the item, and the text after it, if there is any
abbrev pub units_in : Macros → Tree → Text → List Spaced
units_in macros (CommentTree head) trail = comment_unit macros head trail ∷ []
units_in macros (DefinitionTree d) trail = item_unit macros (DefinitionTree d) (front_space trail) ∷ text_units (macros_after macros (DefinitionTree d)) trail
units_in macros (PreambleTree p) trail = item_unit macros (PreambleTree p) (front_space trail) ∷ text_units macros trail
units_in macros (EntryTree e) trail = item_unit macros (EntryTree e) (front_space trail) ∷ text_units macros trail

-- the units of items, each with the white space after it, if these macros are defined before the first
abbrev pub units_from : Macros → List Item → List Spaced
units_from macros [] = []
units_from macros (item ∷ items) = units_in macros item.tree item.trail ++ units_from (macros_after macros item.tree) items

-- the white space with which a file begins
abbrev pub first_space : Reading → Text
first_space db = front_space db.front

-- the units of a file, each with the white space after it
abbrev pub spaced_of : Reading → List Spaced
spaced_of db = text_units months db.front ++ units_from months db.items

-- the units of a file
abbrev pub units_of : Reading → List Unit
units_of db = map (λ s. s.unit) (spaced_of db)

-- ---- labels

-- what tells units apart: an entry by its key, a macro definition by its name, and everything else by its bytes
pub data Label : Type 0 where
  EntryLabel : Text → Label
  MacroLabel : Text → Label
  BytesLabel : Text → Label

-- the label of an item with this text after it
abbrev pub tree_label : Tree → Text → Label
tree_label (EntryTree e) text = if is_empty e.key then BytesLabel (tree_bytes (EntryTree e)) else EntryLabel (folded e.key)
tree_label (DefinitionTree d) text = MacroLabel (folded d.assignment.name)
tree_label (PreambleTree p) text = BytesLabel (tree_bytes (PreambleTree p))
tree_label (CommentTree h) text = BytesLabel (tree_bytes (CommentTree h) ++ text)

-- the label of a unit
abbrev pub label_of : Unit → Label
label_of u = option_map_or (λ tree. tree_label tree u.text) u.tree (BytesLabel u.text)

-- the two labels are the same
abbrev pub same_label : Label → Label → Bool
same_label (EntryLabel a) (EntryLabel b) = bytes_eq a b
same_label (MacroLabel a) (MacroLabel b) = bytes_eq a b
same_label (BytesLabel a) (BytesLabel b) = bytes_eq a b
same_label (EntryLabel a) (MacroLabel b) = false
same_label (EntryLabel a) (BytesLabel b) = false
same_label (MacroLabel a) (EntryLabel b) = false
same_label (MacroLabel a) (BytesLabel b) = false
same_label (BytesLabel a) (EntryLabel b) = false
same_label (BytesLabel a) (MacroLabel b) = false
