-- What a file says, or where it goes wrong. (dialect)
use Rattle.std.specs.Prelude.{ℕ, ◌≡◌, true, List, ◌∷◌, ◌++◌, length}
use Rattle.bib_spec.specs.Text.{Text}
use Rattle.bib_spec.specs.Texts.{is_empty}
use Rattle.ris_text.specs.declared.lines.Class.TheVariants.{Begin, End}
use Rattle.ris_text.specs.declared.records.RisFile.{RisFile}
use Rattle.ris_text.specs.declared.fault.RisFault.{RisFault}
use Rattle.ris_text.specs.declared.fault.RisFault.TheVariants.{NoStart, NoEnd, EmptyType}
use Rattle.ris_text.specs.Lines.{Line, lines_of}
use Rattle.ris_text.specs.Trees.{is_inner, Begun, IsBegun, begun_lines, record_of, Tree, IsTree, tree_lines, file_of}

-- the lines are the lines of a tree, and the tree says this
pub record Says (lines : List Line) (file : RisFile) : Type 0 where
  pub tree : Tree
  pub is_tree : IsTree tree
  pub same : tree_lines tree ≡ lines
  pub told : file_of tree ≡ file

-- What is wrong with the lines after a tree, in a file that ends at `end`: each rule says which lines are there first, and gives
-- the fault with its place.
pub data IsWrong (end : ℕ) : List Line → RisFault → Type 0 where
  -- outside records there is a tag line other than a TY line: a line that may be inside a record, or an ER line
  inner : (line : Line) (rest : List Line) → is_inner line.class ≡ true → IsWrong end (line ∷ rest) (NoStart line.place)
  ends : (line : Line) (rest : List Line) → line.class ≡ End → IsWrong end (line ∷ rest) (NoStart line.place)
  -- a record begins inside another
  begins_again : (b : Begun) (line : Line) (rest : List Line) → IsBegun b → line.class ≡ Begin → IsWrong end (begun_lines b ++ line ∷ rest) (NoEnd line.place)
  -- the file ends inside a record
  unended : (b : Begun) → IsBegun b → IsWrong end (begun_lines b) (NoEnd end)
  -- a record without a type ends
  untyped : (b : Begun) (line : Line) (rest : List Line) → IsBegun b → line.class ≡ End → is_empty (record_of b).kind_name ≡ true
      → IsWrong end (begun_lines b ++ line ∷ rest) (EmptyType b.first.head.place)

-- the lines are the lines of a tree, and then lines with which something is wrong
pub record GoesWrong (end : ℕ) (lines : List Line) (fault : RisFault) : Type 0 where
  pub before : Tree
  pub is_tree : IsTree before
  pub rest : List Line
  pub same : tree_lines before ++ rest ≡ lines
  pub wrong : IsWrong end rest fault

-- the file says this
abbrev pub Reads : Text → RisFile → Type 0
Reads file said = Says (lines_of file) said

-- the file goes wrong, and this is the fault that is met first
abbrev pub IsFaultOf : Text → RisFault → Type 0
IsFaultOf file fault = GoesWrong (length file) (lines_of file) fault
