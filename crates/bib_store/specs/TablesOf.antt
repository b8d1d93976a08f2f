-- The tables that are kept beside the items of a file.
use Rattle.std.specs.Prelude.{ℕ, suc, ◌≡◌, ◌≤◌, ◌<◌, ◌+◌, ◌^◌, ◌++◌, List, [], ◌∷◌, length, map, slice_get, Option, Some, None, IfSome, All}
use Rattle.bib_spec.specs.Bytes.{name_limit, file_limit}
use Rattle.bib_spec.specs.Text.{Text}
use Rattle.bib_spec.specs.Tree.{Tree, IsTree}
use Rattle.bib_spec.specs.Reading as reading
use Rattle.bib_spec.specs.Reading.{Reading, bytes_of, IsItem}
use Rattle.bib_spec.specs.Texts.{months, gathered, raw_texts_from}
use Rattle.bib_spec.specs.Records.{entry_in, keys_of, crossref_text}
use Rattle.bib_scan.specs.View.{View, view_of, kind_of}
use Rattle.bib_scan.specs.Note.{note_of, IsNoteOf}
use Rattle.bib_scan.specs.declared.note.Note.{Note}
use Rattle.bib_scan.specs.declared.view.Kind.{Kind}
use Rattle.bib_scan.specs.declared.view.Kind.TheVariants as kind
use Rattle.bib_items.specs.declared.list.Item.{Item}
use Rattle.bib_store.specs.declared.tables.Tables.{Tables}
use Rattle.bib_store.specs.Readings.{entry_numbers}
use Rattle.bib_items.specs.Items.{all_stored}
use Rattle.bib_numbers.specs.Numbers.{PartAt, HaveNext}
use Rattle.bib_entries.specs.EntryTable.{IsTableOf}
use Rattle.bib_definitions.specs.Definitions.{texts_at, AreDefinitionsOf}
use Rattle.bib_store.specs.Tables.{preamble_numbers}
use Rattle.bib_store.specs.Bounds.{AreAllSettled, AreBounded}
use Rattle.bib_store.specs.ItemTexts.{first_too_long, placed_texts}

-- the tables say of these items which are entries and preambles, which keys the entries have, what macros stand for
-- before each item, what the crossref of each entry says, and what is known of all items
pub record AreTablesOf (items : List reading.Item) (t : Tables) : Type 0 where
  pub entries : t.entries ≡ entry_numbers items
  pub preambles : t.preambles ≡ preamble_numbers items
  pub named : IsTableOf (keys_of (gathered entry_in months items)) (map crossref_text (gathered entry_in months items)) t.named
  pub definitions : AreDefinitionsOf items t.definitions
  pub bounds : AreBounded t.bounds items

-- the tables are those of this file
abbrev pub AreTables : Reading → Tables → Type 0
AreTables db t = AreTablesOf db.items t

-- a file that is not too long has a front of this length, and these items
pub record HasItems (front_len : ℕ) (kept : List Item) (db : Reading) : Type 0 where
  pub items : All (IsItem name_limit) db.items
  pub file : length (bytes_of db) ≤ file_limit
  pub front : length db.front ≡ front_len
  pub same : all_stored db.items ≡ kept

-- the tables say of all items what they said
pub record SayTheSame (old new : Tables) : Type 0 where
  pub len : new.file_len ≡ old.file_len
  pub tables : (items : List reading.Item) → AreTablesOf items old → AreTablesOf items new

-- the notes are those of the first of these items, in order; there may be fewer notes than items
abbrev pub AreNotesOf : List Note → List Item → Type 0
AreNotesOf notes kept = (n : ℕ) (note : Note) (item : Item) → slice_get notes n ≡ Some note → slice_get kept n ≡ Some item → IsNoteOf item.body note

-- the note, if there is one, is that of the item that is seen
abbrev pub IsNotedAs : Option Note → View → Type 0
IsNotedAs note view = IfSome note (λ known. (i : reading.Item) → IsTree name_limit i.tree → view ≡ view_of i → known ≡ note_of i.tree)

-- ---- one item more

-- the item with this tree and this trail
abbrev pub item_with : Tree → Text → reading.Item
item_with tree trail = record { tree = tree; trail = trail }

-- item n is inserted before the items with the numbers from n on, which are settled if it is a definition; no raw text in it
-- is too long
pub record IsInsertion (n : ℕ) (tree : Tree) (old new : Tables) : Type 0 where
  pub tables : (before after : List reading.Item) (trail : Text) → length before ≡ n → n + length after < 2 ^ 64 → (kind_of tree ≡ kind.Macro → AreAllSettled after) → AreTablesOf (before ++ after) old → AreTablesOf (before ++ item_with tree trail ∷ after) new
  pub texts : first_too_long (placed_texts (texts_at old.definitions n) tree) ≡ None

-- entries and preambles make way for an item of another kind that comes as item n; nothing else changes but definitions and
-- bounds
pub record IsMovedFor (n : ℕ) (old new : Tables) : Type 0 where
  pub entries : (front rest : List ℕ) → PartAt n front rest old.entries → HaveNext rest → new.entries ≡ front ++ map suc rest
  pub preambles : (front rest : List ℕ) → PartAt n front rest old.preambles → HaveNext rest → new.preambles ≡ front ++ map suc rest
  pub named : new.named ≡ old.named

-- item n is removed; the items after it are settled if it is a definition
abbrev pub IsRemoval : ℕ → Tree → Tables → Tables → Type 0
IsRemoval n tree old new = (before after : List reading.Item) (trail : Text) → length before ≡ n → n + length after < 2 ^ 64 → (kind_of tree ≡ kind.Macro → AreAllSettled after) → AreTablesOf (before ++ item_with tree trail ∷ after) old → AreTablesOf (before ++ after) new

-- item n, after the items of `before`, is x, which is seen as the old view, or y, which is seen as the new one
pub record AreSeen (n : ℕ) (old_view new_view : View) (before : List reading.Item) (x y : reading.Item) : Type 0 where
  pub count : length before ≡ n
  pub old_tree : IsTree name_limit x.tree
  pub new_tree : IsTree name_limit y.tree
  pub old_seen : old_view ≡ view_of (item_with x.tree [])
  pub new_seen : new_view ≡ view_of (item_with y.tree [])

-- item n is replaced by another: the tables say what holds then, and if no raw text was too long, none is
pub record TakesPlace (n : ℕ) (old_view new_view : View) (old new : Tables) : Type 0 where
  pub tables : (before after : List reading.Item) (x y : reading.Item) → AreSeen n old_view new_view before x y → AreTablesOf (before ++ x ∷ after) old → AreTablesOf (before ++ y ∷ after) new
  pub texts : (before after : List reading.Item) (x y : reading.Item) → AreSeen n old_view new_view before x y → AreTablesOf (before ++ x ∷ after) old → All (IsItem name_limit) (before ++ y ∷ after)
      → first_too_long (raw_texts_from 0 months (before ++ x ∷ after)) ≡ None → first_too_long (raw_texts_from 0 months (before ++ y ∷ after)) ≡ None

-- item n is added after the items of the old tables, and no raw text in it is too long
pub record IsStep (n : ℕ) (tree : Tree) (old new : Tables) : Type 0 where
  pub tables : (items : List reading.Item) (trail : Text) → length items ≡ n → AreTablesOf items old → AreTablesOf (items ++ item_with tree trail ∷ []) new
  pub texts : first_too_long (placed_texts (texts_at old.definitions n) tree) ≡ None

-- the first raw text that is too long in item n begins at this place of its body
abbrev pub IsTooLongAt : ℕ → Tree → Tables → ℕ → Type 0
IsTooLongAt n tree t place = first_too_long (placed_texts (texts_at t.definitions n) tree) ≡ Some place

-- it holds of the tree that is seen
abbrev pub OfSeen : View → (Tree → Type 0) → Type 0
OfSeen view P = (tree : Tree) → IsTree name_limit tree → view ≡ view_of (item_with tree []) → P tree

-- it holds of the tree of this kind that is seen
abbrev pub OfView : Kind → View → (Tree → Type 0) → Type 0
OfView kind view P = (tree : Tree) → IsTree name_limit tree → kind_of tree ≡ kind → view ≡ view_of (item_with tree []) → P tree
