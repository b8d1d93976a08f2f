-- Laws of the readings of shelves.
use Rattle.std.specs.Prelude.{ℕ, ◌≡◌, ◌+◌, ◌<◌, List, ◌∷◌, length, Some, slice_get}
use Rattle.bib_spec.specs.Text.{Text}
use Rattle.bib_spec.specs.Reading.{Reading, Reads}
use Rattle.shelf_spec.specs.Shelf.{shelf_text, on_shelf, AllRead}
use Rattle.shelf_spec.specs.Numbers.{first_place}
use Rattle.bib_shelf.specs.Items.{BeginsAt}

-- a shelf of files with readings has the reading of the shelf, and no other
abbrev pub one_shelf_reading : Type 0
one_shelf_reading = (file : Text) (db : Reading) (files : List Text) (dbs : List Reading) → Reads file db → AllRead files dbs →
    Reads (shelf_text file files) (on_shelf db dbs) × ((other : Reading) → Reads (shelf_text file files) other → other ≡ on_shelf db dbs)

-- an item begins where each file but the last ends
abbrev pub AreParted : List Text → Reading → Type 0
AreParted files db = (i : ℕ) (file : Text) → i + 1 < length files → slice_get files i ≡ Some file → BeginsAt db (first_place i files + length file)

-- a shelf whose reading has an item at each seam is one of files with readings
abbrev pub parted_files_read : Type 0
parted_files_read = (file : Text) (files : List Text) (db : Reading) → Reads (shelf_text file files) db → AreParted (file ∷ files) db →
    (dbs : List Reading) × AllRead (file ∷ files) dbs
