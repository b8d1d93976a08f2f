-- The items of the files of a shelf, by their numbers in the shelf.
use Rattle.std.specs.Prelude.{ℕ, ◌≡◌, ◌+◌, ◌<◌, ◌≤◌, List, [], length, map, Some, slice_get, slice_index_or}
use Rattle.bib_spec.specs.Reading.{Reading}
use Rattle.bib_scan.specs.Layout.{start_of}
use Rattle.shelf_spec.specs.Numbers.{first_item}

-- item n is the first that does not begin before this place; the number of items, if each begins before it
pub record IsFirstFrom (db : Reading) (place n : ℕ) : Type 0 where
  pub within : n ≤ length db.items
  pub before : (m : ℕ) → m < n → start_of db m < place
  pub from : n < length db.items → place ≤ start_of db n

-- an item begins at this place, or the file ends there
abbrev pub BeginsAt : Reading → ℕ → Type 0
BeginsAt db place = (n : ℕ) × (n ≤ length db.items) × (start_of db n ≡ place)

-- an item begins where each file but the last ends, if the files lie there
abbrev pub ArePartedAt : Reading → List (ℕ × ℕ) → Type 0
ArePartedAt db spans = (i : ℕ) (span : ℕ × ℕ) → i + 1 < length spans → slice_get spans i ≡ Some span → BeginsAt db span.1

-- the number, in the shelf, of the first item of file i, and how many items the file has
abbrev pub items_at : List Reading → ℕ → ℕ × ℕ
items_at dbs i = (first_item i dbs, length (slice_index_or (map (λ db. db.items) dbs) i []))
