-- Small files and texts, and what the definitions say of the text in the file, byte by byte.
use Rattle.std.specs.Prelude.{◌≡◌, List, [], ◌∷◌, codes}
use Rattle.bib_spec.specs.Text.{Text}
use Rattle.bib_spec.specs.Tree.{Braced, CommentTree}
use Rattle.bib_spec.specs.Reading.{Item, Reading, bytes_of}
use Rattle.edit_spec.specs.Edits.{BadPosition, KeyInUse, NameInUse, WouldMerge}
use Rattle.edit_spec.specs.Examples.{entry, string, only}
use Rattle.insert_spec.specs.Insertion.{inserted, pieces_of, RefusesInsertion}

-- `@misc{key}`, and the text after it
abbrev pub misc : Text → Text → Item
misc key trail = entry (codes "misc") key [] trail

-- the file that has this front and these items
abbrev pub file : Text → List Item → Reading
file front items = record { front = front; items = items }

-- `@misc{a}`, which doesn't end its line
abbrev pub open_line : Reading
open_line = file [] (misc (codes "a") [] ∷ [])

-- two entries, each in a line of its own, with white space at the end
abbrev pub two_lines : Reading
two_lines = file [] (misc (codes "a") (codes "\n") ∷ misc (codes "b") (codes "\n \n") ∷ [])

-- an entry in a line of its own, with a remark before it
abbrev pub remarked : Reading
remarked = file (codes "% new\n") (misc (codes "c") (codes "\n") ∷ [])

-- `@comment`, which doesn't end its line
abbrev pub comment_end : Reading
comment_end = file [] (record { tree = CommentTree (record { space_before_type = []; type_name = codes "comment" }); trail = [] } ∷ misc (codes "a") (codes "\n") ∷ [])

-- a text that begins with a word
abbrev pub worded : Reading
worded = file (codes "s\n") (misc (codes "c") (codes "\n") ∷ [])

-- the definition of a macro
abbrev pub defining : Reading
defining = file [] (string (codes "p") (only (Braced (codes "A"))) ∷ [])

-- A text after the last item begins a line: it gets a line's end before it, if the file doesn't end a line. The white space at
-- the end of a file stays before the text.
pub record TextFollowsTheFile : Type 0 where
  pub joined : bytes_of (inserted 1 remarked open_line) ≡ codes "@misc{a}\n% new\n@misc{c}\n"
  pub last : bytes_of (inserted 2 remarked two_lines) ≡ codes "@misc{a}\n@misc{b}\n \n% new\n@misc{c}\n"
  pub pieces : pieces_of 1 remarked open_line ≡ record { place = 8; old = []; new = codes "\n% new\n@misc{c}\n" } ∷ []
  pub nothing : pieces_of 1 (file [] []) open_line ≡ []

-- A text between two items, or before the first, is put there byte for byte.
pub record TextStandsBetween : Type 0 where
  pub between : bytes_of (inserted 1 remarked two_lines) ≡ codes "@misc{a}\n% new\n@misc{c}\n@misc{b}\n \n"
  pub first : bytes_of (inserted 0 remarked two_lines) ≡ codes "% new\n@misc{c}\n@misc{a}\n@misc{b}\n \n"
  pub pieces : pieces_of 1 remarked two_lines ≡ record { place = 9; old = []; new = codes "% new\n@misc{c}\n" } ∷ []
  pub line : bytes_of (inserted 1 open_line two_lines) ≡ codes "@misc{a}\n@misc{a}@misc{b}\n \n"

-- Refused are a position after the end, a key that is there, a macro that is defined there, and a front that would lengthen
-- the type of a comment before it.
pub record TextIsRefused : Type 0 where
  pub position : RefusesInsertion BadPosition 2 remarked open_line
  pub held : RefusesInsertion KeyInUse 1 (file [] (misc (codes "A") [] ∷ [])) open_line
  pub twice : RefusesInsertion KeyInUse 1 (file [] (misc (codes "c") [] ∷ misc (codes "C") [] ∷ [])) open_line
  pub defined : RefusesInsertion NameInUse 0 (file [] (string (codes "P") (only (Braced (codes "B"))) ∷ [])) defining
  pub merged : RefusesInsertion WouldMerge 1 worded comment_end
