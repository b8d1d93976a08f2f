-- Numbers of items and places of bytes, in a shelf and in its files.
use Rattle.std.specs.Prelude.{ℕ, zero, suc, ◌+◌, ◌-◌, nat_lt, min, List, [], ◌∷◌, length, take, if◌then◌else◌}
use Rattle.std.specs.List.{flat_map}
use Rattle.bib_spec.specs.Text.{Text}
use Rattle.bib_spec.specs.Reading.{Item, Reading, item_bytes}
use Rattle.shelf_spec.specs.Shelf.{seam}

-- the number, in the shelf, of the first item of file i: the items of the files before it, and i seams
abbrev pub first_item : ℕ → List Reading → ℕ
first_item zero dbs = 0
first_item (suc i) [] = 0
first_item (suc i) (db ∷ dbs) = length db.items + suc (first_item i dbs)

-- the place, in the shelf, of the first byte of file i: the bytes of the files before it, and i seams
abbrev pub first_place : ℕ → List Text → ℕ
first_place zero files = 0
first_place (suc i) [] = 0
first_place (suc i) (file ∷ files) = (length file + length seam) + first_place i files

-- the place of item n in the file
abbrev pub item_place : Reading → ℕ → ℕ
item_place db n = length db.front + length (flat_map item_bytes (take n db.items))

-- the file with this place of the shelf, and the place in that file; in a seam, the end of the file before it
abbrev pub located : Text → List Text → ℕ → ℕ × ℕ
located file [] place = (0, place)
located file (next ∷ more) place =
    if nat_lt place (length file + length seam) then (0, min place (length file))
    else let rest = located next more (place - (length file + length seam)) in (suc rest.0, rest.1)

-- the items of all files, one after another, without the seams
abbrev pub items_of : List Reading → List Item
items_of dbs = flat_map (λ db. db.items) dbs

-- how many items the files before file i have, without the seams
abbrev pub items_before : ℕ → List Reading → ℕ
items_before i dbs = length (items_of (take i dbs))
