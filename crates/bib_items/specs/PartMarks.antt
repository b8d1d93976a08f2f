-- The marks of parts: numbers that tell where a search need not look. A search and each part that it meets have the same
-- mark; parts that are not alike may have the same mark too.
use Rattle.std.specs.Prelude.{ℕ, ◌≡◌, ◌+◌, ◌*◌, ◌%◌, List, [], ◌∷◌, Option, Some, None, take, All, Contains}
use Rattle.std.specs.List.{AllByRecursion}
use Rattle.bib_spec.specs.Bytes.{name_limit}
use Rattle.bib_spec.specs.Text.{Text, folded}
use Rattle.bib_spec.specs.Tree.{Part, Braced, Quoted, Digits, Macro, Value, Tree, IsValue, IsTree, value_bytes, tree_bytes}
use Rattle.bib_spec.specs.Texts.{parts_of, values_of}
use Rattle.bib_scan.specs.View.{Field}
use Rattle.bib_items.specs.declared.list.Item.{Item}
use Rattle.bib_items.specs.declared.seeking.Sought.{Sought}
use Rattle.bib_items.specs.declared.seeking.Sought.TheVariants as sought

-- a mark after one more byte
unfoldable pub mixed : ℕ → ℕ → ℕ
mixed mark b = (mark * 16777619 + b) % 4294967296

-- a mark after the bytes of a text
abbrev pub mixed_all : ℕ → Text → ℕ
mixed_all mark [] = mark
mixed_all mark (b ∷ t) = mixed_all (mixed mark b) t

-- the mark of a macro's name, folded
abbrev pub name_mark : Text → ℕ
name_mark name = mixed_all 1 (folded name)

-- how many bytes of a text its mark is made of, and how many a look at an item's bytes seeks, at most
abbrev pub mark_len : ℕ
mark_len = 32

-- the mark of a text in braces or in quotes, made of its first bytes
abbrev pub text_mark : Text → ℕ
text_mark text = mixed_all 2 (take mark_len text)

-- the mark of a part; digits have none
abbrev pub part_mark : Part → Option ℕ
part_mark (Braced t) = Some (text_mark t)
part_mark (Quoted t) = Some (text_mark t)
part_mark (Digits t) = None
part_mark (Macro name) = Some (name_mark name)

-- the mark of the parts that are sought, if any part can be met
abbrev pub sought_mark : Sought → Option ℕ
sought_mark sought.Nothing = None
sought_mark (sought.Uses name) = Some (name_mark name.now)
sought_mark (sought.Holds text) = Some (text_mark text.now)

-- the new marks have all of the old ones
abbrev pub KeepsMarks : List ℕ → List ℕ → Type 0
KeepsMarks old new = (mark : ℕ) → Contains old mark → Contains new mark

-- the part's mark is among these, if it has one
abbrev pub HasPartMark : List ℕ → Part → Type 0
HasPartMark marks p = (mark : ℕ) → part_mark p ≡ Some mark → Contains marks mark

-- the marks of all parts of the value are among these
abbrev pub HasMarksOf : List ℕ → Value → Type 0
HasMarksOf marks v = AllByRecursion (HasPartMark marks) (parts_of v)

-- the marks of the value with these bytes are among these
abbrev pub HasValueMarks : List ℕ → Text → Type 0
HasValueMarks marks value = (v : Value) → IsValue name_limit v → value_bytes v ≡ value → HasMarksOf marks v

-- the marks of these fields are among these
abbrev pub HasFieldMarks : List ℕ → List Field → Type 0
HasFieldMarks marks fields = AllByRecursion (λ field. HasValueMarks marks field.value) fields

-- the marks of the item with this body are among these
abbrev pub HasItemMarks : List ℕ → Text → Type 0
HasItemMarks marks body = (tree : Tree) → IsTree name_limit tree → tree_bytes tree ≡ body → AllByRecursion (HasMarksOf marks) (values_of tree)

-- the marks of the item with this body are among these, if marks were made
abbrev pub IsCovered : Option (List ℕ) → Text → Type 0
IsCovered None body = Unit
IsCovered (Some marks) body = HasItemMarks marks body

-- the marks of each of these items are among these, if marks were made
abbrev pub AreCovered : Option (List ℕ) → List Item → Type 0
AreCovered marks items = All (λ (i : Item). IsCovered marks i.body) items
