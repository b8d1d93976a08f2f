-- Several files read as one: the shelf, and what it says.
use Rattle.std.specs.Prelude.{List, [], ◌∷◌, ◌++◌, codes, ⊤}
use Rattle.bib_spec.specs.Text.{Text}
use Rattle.bib_spec.specs.Tree.{CommentTree, Head}
use Rattle.bib_spec.specs.Reading.{Item, Reading, Reads}

-- the bytes between two files: a comment, after which nothing of the file before goes on (dialect)
abbrev pub seam : Text
seam = codes "@comment %\n"

-- the seam's head, as a tree
abbrev pub seam_head : Head
seam_head = record { space_before_type = []; type_name = codes "comment" }

-- the seam as an item; its trail goes on with the front of the next file
abbrev pub seam_item : Text → Item
seam_item front = record { tree = CommentTree seam_head; trail = codes " %\n" ++ front }

-- the shelf: the files one after another, with a seam between two
abbrev pub shelf_text : Text → List Text → Text
shelf_text file [] = file
shelf_text file (next ∷ more) = file ++ (seam ++ shelf_text next more)

-- two readings with a seam between them
abbrev pub with_seam : Reading → Reading → Reading
with_seam db rest = record { front = db.front; items = db.items ++ (seam_item rest.front ∷ rest.items) }

-- the reading of the shelf, from the readings of the files
abbrev pub on_shelf : Reading → List Reading → Reading
on_shelf db [] = db
on_shelf db (next ∷ more) = with_seam db (on_shelf next more)

-- each file has its reading
abbrev pub AllRead : List Text → List Reading → Type 0
AllRead [] [] = ⊤
AllRead (file ∷ files) (db ∷ dbs) = Reads file db × AllRead files dbs
AllRead [] (db ∷ dbs) = ⊥
AllRead (file ∷ files) [] = ⊥
