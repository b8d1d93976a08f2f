-- How a file is kept.
use Rattle.std.specs.Prelude.{◌≡◌, ◌≤◌, List, ◌++◌, None, length, map}
use Rattle.std.specs.List.{flat_map}
use Rattle.bib_spec.specs.Bytes.{file_limit}
use Rattle.bib_spec.specs.Text.{Text}
use Rattle.bib_spec.specs.Reading.{Reading, Reads}
use Rattle.bib_spec.specs.Texts.{Opens, too_long_at}
use Rattle.bib_scan.specs.Note.{note_of}
use Rattle.bib_scan.specs.declared.note.Note.{Note}
use Rattle.bib_items.specs.declared.list.Item.{Item}
use Rattle.bib_store.specs.declared.tables.Tables.{Tables}
use Rattle.bib_items.specs.Items.{kept_bytes, all_stored}
use Rattle.bib_store.specs.TablesOf.{AreTables}
use Rattle.bib_store.specs.Readings.{OfReading}

-- the file that consists of a front and the items after it
abbrev pub file_of : Text → List Item → Text
file_of front items = front ++ flat_map kept_bytes items

-- the front, the items and the notes are those of a file that is read and not too long
pub record IsTaken (bytes front : Text) (items : List Item) (notes : List Note) : Type 0 where
  pub db : Reading
  pub reads : Reads bytes db
  pub short : length bytes ≤ file_limit
  pub front_is : front ≡ db.front
  pub items_are : items ≡ all_stored db.items
  pub notes_are : notes ≡ map (λ item. note_of item.tree) db.items

-- the tables are those of the file, in which no raw text is too long
pub record AreTablesOfFile (file : Text) (t : Tables) : Type 0 where
  pub tables : OfReading file (λ db. AreTables db t)
  pub len : t.file_len ≡ length file
  pub texts : OfReading file (λ db. too_long_at db ≡ None)

-- the front, the items and the tables are those of the reading, and the tables say how long the file is
pub record IsKeptAs (db : Reading) (kept_front : Text) (kept_items : List Item) (kept_tables : Tables) : Type 0 where
  pub opens : Opens (file_of kept_front kept_items) db
  pub front : kept_front ≡ db.front
  pub items : kept_items ≡ all_stored db.items
  pub tables : AreTables db kept_tables
  pub len : kept_tables.file_len ≡ length (file_of kept_front kept_items)

-- the new tables say of these items what the old ones say
pub record SayTheSameOf (items : List Item) (old new : Tables) : Type 0 where
  pub len : new.file_len ≡ old.file_len
  pub tables : (db : Reading) (front : Text) → IsKeptAs db front items old → AreTables db new

-- the front, the items and the tables are those of a file that can be opened
pub record IsKept (front : Text) (items : List Item) (tables : Tables) : Type 0 where
  pub db : Reading
  pub is : IsKeptAs db front items tables
