-- What holds of every reading of a file's bytes, and why bytes are not opened.
use Rattle.std.specs.Prelude.{ℕ, ◌≡◌, ◌<◌, ◌≤◌, ◌⊎◌, Bool, true, false, List, length, map, filter, Some}
use Rattle.std.specs.List.{enumerate_from}
use Rattle.bib_spec.specs.Bytes.{file_limit}
use Rattle.bib_spec.specs.Text.{Text}
use Rattle.bib_spec.specs.Tree.{Tree, CommentTree, DefinitionTree, PreambleTree, EntryTree}
use Rattle.bib_spec.specs.Reading.{Item, Reading, Reads}
use Rattle.bib_spec.specs.Fault.{IsReadFault}
use Rattle.bib_spec.specs.Texts.{too_long_at}
use Rattle.bib_spec.specs.Records.{entries_of, preambles_of}

-- it holds of every reading of these bytes
abbrev pub OfReading : Text → (Reading → Type 0) → Type 0
OfReading file P = (db : Reading) → Reads file db → P db

-- ---- numbers

-- the file has an item with this number, counted from 0
abbrev pub IsItemNumber : Text → ℕ → Type 0
IsItemNumber file n = OfReading file (λ db. n < length db.items)

-- a gap between items: before the item with this number, or after the last
abbrev pub IsItemGap : Text → ℕ → Type 0
IsItemGap file n = OfReading file (λ db. n ≤ length db.items)

-- an entry with this number among the entries
abbrev pub IsEntryNumber : Text → ℕ → Type 0
IsEntryNumber file n = OfReading file (λ db. n < length (entries_of db))

-- a preamble with this number among the preambles
abbrev pub IsPreambleNumber : Text → ℕ → Type 0
IsPreambleNumber file n = OfReading file (λ db. n < length (preambles_of db))

-- the tree is that of an entry
abbrev pub is_entry_tree : Tree → Bool
is_entry_tree (EntryTree e) = true
is_entry_tree (CommentTree h) = false
is_entry_tree (DefinitionTree d) = false
is_entry_tree (PreambleTree p) = false

-- the items that are entries, in order
abbrev pub entry_items : List Item → List Item
entry_items items = filter (λ item. is_entry_tree item.tree) items

-- the numbers that the entries have among the items, in order
abbrev pub entry_numbers : List Item → List ℕ
entry_numbers items = map (λ p. p.0) (filter (λ p. is_entry_tree p.1.tree) (enumerate_from 0 items))

-- ---- faults of opening

-- the file is read, and a raw text is too long: the place is that of the first such value (dialect)
pub record IsTextFault (file : Text) (kind place : ℕ) : Type 0 where
  pub number : kind ≡ 8
  pub short : length file ≤ file_limit
  pub db : Reading
  pub reads : Reads file db
  pub first : too_long_at db ≡ Some place

-- why the bytes are not opened: they are not read, or else a raw text is too long
abbrev pub IsOpenFault : Text → ℕ → ℕ → Type 0
IsOpenFault file kind place = IsReadFault file kind place ⊎ IsTextFault file kind place
