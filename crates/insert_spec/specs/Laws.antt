-- Laws of insertions. Each is proved.
use Rattle.std.specs.Prelude.{ℕ, suc, ◌≡◌, ◌<◌, ◌≤◌, List, ◌++◌, length, map, take, drop, option_map, slice_get}
use Rattle.bib_spec.specs.Text.{Text}
use Rattle.bib_spec.specs.Tree.{Tree}
use Rattle.bib_spec.specs.Reading.{Item, Reading, Reads, bytes_of}
use Rattle.bib_spec.specs.Texts.{Opens}
use Rattle.bib_spec.specs.Pieces.{Fit, applied}
use Rattle.edit_spec.specs.Edits.{HasCleanTexts, TextTooLong}
use Rattle.insert_spec.specs.Insertion.{line_end_before, inserted, pieces_of, IsPlannedInsertion, RefusesInsertion}

-- the trees of items, in order
abbrev pub trees : List Item → List Tree
trees items = map (λ item. item.tree) items

-- the database has its own items and those of the new text, in order, and no other
abbrev pub insertion_keeps_trees : Type 0
insertion_keeps_trees = (position : ℕ) (new db : Reading) →
    trees (inserted position new db).items ≡ take position (trees db.items) ++ (trees new.items ++ drop position (trees db.items))

-- the pieces fit the file, and lead to the bytes of the new database
pub record insertion_leads : Type 0 where
  pub fit : (position : ℕ) (new db : Reading) → position ≤ length db.items → Fit (pieces_of position new db) (bytes_of db)
  pub lead : (position : ℕ) (new db : Reading) → position ≤ length db.items → applied (pieces_of position new db) (bytes_of db) ≡ bytes_of (inserted position new db)

-- if its texts are clean, the new database is the one reading of its bytes
abbrev pub insertion_reads : Type 0
insertion_reads = (file text : Text) (position : ℕ) (new db : Reading) → Reads file db → Reads text new → HasCleanTexts (inserted position new db)
    → Reads (bytes_of (inserted position new db)) (inserted position new db)

-- the file that an insertion leads to can be opened, if nothing refuses it
abbrev pub insertion_opens : Type 0
insertion_opens = (file text : Text) (position : ℕ) (new db : Reading) → Reads file db → Reads text new → IsPlannedInsertion position new db
    → (RefusesInsertion TextTooLong position new db → ⊥) → Opens (applied (pieces_of position new db) file) (inserted position new db)

-- ---- what stays

-- the bytes that stand before the new items: a line's end or nothing, and the new text's front
abbrev pub bytes_before : ℕ → Reading → Reading → Text
bytes_before position new db = line_end_before position new db ++ new.front

-- an item with these bytes after its trail
abbrev pub with_more : Text → Item → Item
with_more more item = record item { trail = item.trail ++ more }

-- At position 0 the items stay as they are, after the new ones, and the front has the bytes before the new items at its end.
pub record first_insertion_keeps : Type 0 where
  pub front : (new db : Reading) → (inserted 0 new db).front ≡ db.front ++ bytes_before 0 new db
  pub items : (new db : Reading) → (inserted 0 new db).items ≡ new.items ++ db.items

-- At a position after an item the front stays as it is, and all items but that one: those before it come first, and those
-- from the position on come after the new ones. That item keeps its tree, and its trail has the bytes before the new items
-- at its end.
pub record later_insertion_keeps : Type 0 where
  pub front : (n : ℕ) (new db : Reading) → n < length db.items → (inserted (suc n) new db).front ≡ db.front
  pub earlier : (n : ℕ) (new db : Reading) → n < length db.items → take n (inserted (suc n) new db).items ≡ take n db.items
  pub before : (n : ℕ) (new db : Reading) → n < length db.items
      → slice_get (inserted (suc n) new db).items n ≡ option_map (with_more (bytes_before (suc n) new db)) (slice_get db.items n)
  pub later : (n : ℕ) (new db : Reading) → n < length db.items → drop (suc n) (inserted (suc n) new db).items ≡ new.items ++ drop (suc n) db.items
