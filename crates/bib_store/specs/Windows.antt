-- A window on a file: items that lie together, and maybe the front before them.
use Rattle.std.specs.Prelude.{ℕ, ◌≡◌, ◌+◌, ◌≤◌, Bool, true, false, List, [], ◌++◌, length, take, drop}
use Rattle.std.specs.List.{flat_map, between}
use Rattle.bib_spec.specs.Bytes.{file_limit}
use Rattle.bib_spec.specs.Text.{Text}
use Rattle.bib_spec.specs.Reading as reading
use Rattle.bib_spec.specs.Reading.{Reading, Reads, HasReading}
use Rattle.bib_spec.specs.Pieces.{Piece, Fit, applied}
use Rattle.bib_scan.specs.Layout.{IsLayoutOf, Places}
use Rattle.bib_items.specs.declared.list.Item.{Item}
use Rattle.bib_store.specs.declared.window.Window.{Window}
use Rattle.bib_store.specs.declared.change.Change.{Change}
use Rattle.bib_store.specs.declared.change.PutItems.{PutItems}
use Rattle.bib_store.specs.declared.tables.Tables.{Tables}
use Rattle.bib_items.specs.Items.{kept_bytes, all_stored}
use Rattle.bib_store.specs.Stored.{file_of, IsKeptAs, SayTheSameOf}
use Rattle.bib_store.specs.TablesOf.{HasItems, AreNotesOf}
use Rattle.bib_store.specs.Following.{bodies_between}

-- the window lies in the items, and it begins the file if it has the front
pub record IsWindow (items : List Item) (w : Window) : Type 0 where
  pub ordered : w.from ≤ w.to
  pub within : w.to ≤ length items
  pub begins : w.with_front ≡ true → w.from ≡ 0

-- the front, if it is before the window
abbrev pub front_before : Bool → Text → Text
front_before true front = []
front_before false front = front

-- the front, if it is in the window
abbrev pub front_within : Bool → Text → Text
front_within true front = front
front_within false front = []

-- the bytes before the window
abbrev pub bytes_before : Window → Text → List Item → Text
bytes_before w front items = file_of (front_before w.with_front front) (take w.from items)

-- the bytes in it
abbrev pub bytes_within : Window → Text → List Item → Text
bytes_within w front items = file_of (front_within w.with_front front) (between w.from w.to items)

-- the bytes after it
abbrev pub bytes_after : Window → List Item → Text
bytes_after w items = flat_map kept_bytes (drop w.to items)

-- The pieces lead from the file to one with another text in the window. The text is read, and begins with an item unless
-- it begins the file.
pub record IsChange (pieces : List Piece) (front : Text) (items : List Item) (c : Change) : Type 0 where
  pub window : IsWindow items c.window
  pub fit : Fit pieces (file_of front items)
  pub made : applied pieces (file_of front items) ≡ bytes_before c.window front items ++ (c.text ++ bytes_after c.window items)
  pub len : c.file_len ≡ length (applied pieces (file_of front items))
  pub short : length (applied pieces (file_of front items)) ≤ file_limit
  pub layout : IsLayoutOf c.text c.layout
  pub begins : c.window.with_front ≡ false → (db : Reading) → Reads c.text db → db.front ≡ []

-- the window is the whole file
pub record IsWhole (items : List Item) (w : Window) : Type 0 where
  pub with_front : w.with_front ≡ true
  pub to : w.to ≡ length items

-- pieces fit the file, and lead to one that is read, of at most the length that files have
pub record Serve (pieces : List Piece) (file : Text) : Type 0 where
  pub fit : Fit pieces file
  pub reads : HasReading (applied pieces file)
  pub short : length (applied pieces file) ≤ file_limit

-- ---- what a change makes

-- the front of the file afterwards
abbrev pub front_after : Bool → Text → Text → Text
front_after true old new = new
front_after false old new = old

-- the items of the list afterwards, with these in the window
abbrev pub exchanged : Window → List reading.Item → List Item → List Item
exchanged w inner items = take w.from items ++ (all_stored inner ++ drop w.to items)

-- the file with the items of another text in the window
abbrev pub joined : Window → Reading → Reading → Reading
joined w db inner = record {
  front = front_after w.with_front db.front inner.front;
  items = take w.from db.items ++ (inner.items ++ drop w.to db.items);
}

-- it holds of the file that the change makes of a kept one, with a front of this length
abbrev pub OfJoined : Change → ℕ → List Item → Tables → (Reading → Type 0) → Type 0
OfJoined c front_len items t P = (front : Text) (db inner : Reading) → IsKeptAs db front items t → Reads c.text inner
    → HasItems front_len (exchanged c.window inner.items items) (joined c.window db inner) → P (joined c.window db inner)

-- the `count` items of the change are in the list before those that they replace
pub record ArePut (c : Change) (old now : List Item) (count : ℕ) : Type 0 where
  pub window : IsWindow old c.window
  pub counted : (inner : Reading) → Reads c.text inner → count ≡ length inner.items
  pub put : (inner : Reading) → Reads c.text inner → now ≡ take c.window.from old ++ (all_stored inner.items ++ drop c.window.from old)

-- the change whose items these are, if its text is this
abbrev pub change_put : PutItems → Text → Places → Change
change_put p text layout = record { window = p.window; file_len = p.file_len; text = text; layout = layout }

-- the notes are those of the items that were put in
abbrev pub AreNoted : PutItems → List Item → Type 0
AreNoted p now = AreNotesOf p.notes (between p.window.from (p.window.from + p.count) now)

-- It holds of the file that the change makes, with a front of this length. The change's items are in the list.
abbrev pub OfPut : PutItems → ℕ → List Item → Tables → (Reading → Type 0) → Type 0
OfPut p front_len now t P = (text : Text) (layout : Places) (old : List Item) → ArePut (change_put p text layout) old now p.count → OfJoined (change_put p text layout) front_len old t P

-- both tables say the same of the items before the change's items were put in
abbrev pub SayTheSameBefore : PutItems → List Item → Tables → Tables → Type 0
SayTheSameBefore p now t u = (text : Text) (layout : Places) (old : List Item) (inner : Reading) → Reads text inner → ArePut (change_put p text layout) old now p.count → SayTheSameOf old t u

-- the change has `count` items, at least `lead`, and so has its window
pub record HasLead (w : Window) (count lead : ℕ) : Type 0 where
  pub come : lead ≤ count
  pub go : w.from + lead ≤ w.to

-- The first `lead` of the change's `count` items have the bodies of the first items in the window, which come after them
-- in the list: only the trails of these change.
pub record IsLead (w : Window) (count lead : ℕ) (now : List Item) : Type 0 where
  pub come : lead ≤ count
  pub go : w.from + lead ≤ w.to
  pub same : bodies_between w.from (w.from + lead) now ≡ bodies_between (w.from + count) (w.from + count + lead) now
