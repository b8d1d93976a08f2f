-- Laws of shelves. Each is proved.
use Rattle.std.specs.Prelude.{ℕ, ◌≡◌, ◌+◌, ◌<◌, ◌≤◌, List, ◌∷◌, length, map, Some, slice_get}
use Rattle.bib_spec.specs.Text.{Text}
use Rattle.bib_spec.specs.Reading.{Reading, Reads, bytes_of}
use Rattle.bib_spec.specs.Texts.{months, macros_at, gathered}
use Rattle.bib_spec.specs.Records.{entry_in, preamble_in, entries_of, preambles_of}
use Rattle.shelf_spec.specs.Shelf.{shelf_text, on_shelf, AllRead}
use Rattle.shelf_spec.specs.Numbers.{first_item, first_place, item_place, located, items_of, items_before}

-- files with readings make a shelf with the reading of the shelf
abbrev pub shelf_reads : Type 0
shelf_reads = (file : Text) (db : Reading) (files : List Text) (dbs : List Reading) →
    Reads file db → AllRead files dbs → Reads (shelf_text file files) (on_shelf db dbs)

-- item p of file i is item `first_item i + p` of the shelf, with its trail
abbrev pub items_are_numbered : Type 0
items_are_numbered = (db : Reading) (dbs : List Reading) (i p : ℕ) (its : Reading) →
    slice_get (db ∷ dbs) i ≡ Some its → p < length its.items →
    slice_get (on_shelf db dbs).items (first_item i (db ∷ dbs) + p) ≡ slice_get its.items p

-- a place of file i, its end included, is found again from its place in the shelf
abbrev pub places_are_located : Type 0
places_are_located = (file : Text) (files : List Text) (i place : ℕ) (its : Text) →
    slice_get (file ∷ files) i ≡ Some its → place ≤ length its →
    located file files (first_place i (file ∷ files) + place) ≡ (i, place)

-- item p of file i stands in the shelf where file i begins, and its place in that file after that
abbrev pub items_are_placed : Type 0
items_are_placed = (db : Reading) (dbs : List Reading) (i p : ℕ) (its : Reading) →
    slice_get (db ∷ dbs) i ≡ Some its → p ≤ length its.items →
    item_place (on_shelf db dbs) (first_item i (db ∷ dbs) + p) ≡ first_place i (map bytes_of (db ∷ dbs)) + item_place its p

-- the place, in the shelf, of item p of file i leads back to file i, and to the item's place in that file
abbrev pub items_are_located : Type 0
items_are_located = (db : Reading) (dbs : List Reading) (i p : ℕ) (its : Reading) →
    slice_get (db ∷ dbs) i ≡ Some its → p ≤ length its.items →
    located (bytes_of db) (map bytes_of dbs) (item_place (on_shelf db dbs) (first_item i (db ∷ dbs) + p)) ≡ (i, item_place its p)

-- the shelf has the entries and the preambles of the list of all items without the seams, with the same texts
pub record SeamsSayNothing (db : Reading) (dbs : List Reading) : Type 0 where
  pub entries : entries_of (on_shelf db dbs) ≡ gathered entry_in months (items_of (db ∷ dbs))
  pub preambles : preambles_of (on_shelf db dbs) ≡ gathered preamble_in months (items_of (db ∷ dbs))

-- the seams of a shelf say nothing
abbrev pub seams_say_nothing : Type 0
seams_say_nothing = (db : Reading) (dbs : List Reading) → SeamsSayNothing db dbs

-- item p of file i has this number in the list of all items without the seams
abbrev pub items_are_listed : Type 0
items_are_listed = (db : Reading) (dbs : List Reading) (i p : ℕ) (its : Reading) →
    slice_get (db ∷ dbs) i ≡ Some its → p < length its.items →
    slice_get (items_of (db ∷ dbs)) (items_before i (db ∷ dbs) + p) ≡ slice_get its.items p

-- item p of file i, or the end of the file, sees the macros in the shelf that it sees in the list of all items without the seams
abbrev pub items_see_the_same : Type 0
items_see_the_same = (db : Reading) (dbs : List Reading) (i p : ℕ) (its : Reading) →
    slice_get (db ∷ dbs) i ≡ Some its → p ≤ length its.items →
    macros_at months (on_shelf db dbs).items (first_item i (db ∷ dbs) + p) ≡ macros_at months (items_of (db ∷ dbs)) (items_before i (db ∷ dbs) + p)
