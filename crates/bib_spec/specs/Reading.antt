-- Reading a text as a database, and the place at which a text without a reading goes wrong.
use Rattle.std.specs.Prelude.{ℕ, ◌≡◌, ◌+◌, ◌<◌, ◌≤◌, List, ◌++◌, length, take, All}
use Rattle.std.specs.List.{flat_map}
use Rattle.bib_spec.specs.Bytes.{name_limit}
use Rattle.bib_spec.specs.Text.{Text}
use Rattle.bib_spec.specs.Clean.{IsClean, IsCleanTrail}
use Rattle.bib_spec.specs.Tree.{Tree, Value, tree_bytes, value_bytes, is_comment, IsTree, IsValue}

-- an item: a tree, and its trail, which is the text after it up to the next item
pub record Item : Type 0 where
  pub tree : Tree
  pub trail : Text

-- a file taken apart: the text before the first item, and the items (btxdoc 3)
pub record Reading : Type 0 where
  pub front : Text
  pub items : List Item

-- the bytes of an item, with its trail
abbrev pub item_bytes : Item → Text
item_bytes i = tree_bytes i.tree ++ i.trail

-- the file: the front, and then each item with its trail
abbrev pub bytes_of : Reading → Text
bytes_of db = db.front ++ flat_map item_bytes db.items

-- a tree of the grammar, and a text that may follow it
pub record IsItem (limit : ℕ) (i : Item) : Type 0 where
  pub tree : IsTree limit i.tree
  pub trail : IsCleanTrail (is_comment i.tree) i.trail

-- the database is the file taken apart, with names and keys of at most `limit` bytes
pub record ReadsWithin (limit : ℕ) (file : Text) (db : Reading) : Type 0 where
  pub bytes : bytes_of db ≡ file
  pub front : IsClean db.front
  pub items : All (IsItem limit) db.items

-- the database is the file taken apart
abbrev pub Reads : Text → Reading → Type 0
Reads = ReadsWithin name_limit

-- the text can be taken apart, with names and keys of at most `limit` bytes
abbrev pub HasReadingWithin : ℕ → Text → Type 0
HasReadingWithin limit t = (db : Reading) × ReadsWithin limit t db

-- the text can be taken apart
abbrev pub HasReading : Text → Type 0
HasReading = HasReadingWithin name_limit

-- the text is one value and nothing else, with names of at most `limit` bytes
abbrev pub IsValueWithin : ℕ → Text → Type 0
IsValueWithin limit t = (v : Value) × IsValue limit v × (value_bytes v ≡ t)

-- the text, with some bytes after it, is such a text
abbrev pub IsViable : (Text → Type 0) → Text → Type 0
IsViable IsSuch t = (more : Text) × IsSuch (t ++ more)

-- The text is not of this kind, and the place is where that becomes certain: the bytes before the place can still become
-- such a text; with the byte at the place they no longer can.
pub record FailsAt (IsSuch : Text → Type 0) (t : Text) (place : ℕ) : Type 0 where
  pub fails : IsSuch t → ⊥
  pub within : place ≤ length t
  pub viable : IsViable IsSuch (take place t)
  pub stuck : place < length t → IsViable IsSuch (take (place + 1) t) → ⊥
