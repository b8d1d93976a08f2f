-- Pieces whose runs lie apart: what each run touches is replaced, and what is between runs is unchanged.
use Rattle.std.specs.Prelude.{ℕ, ◌≡◌, ◌+◌, ◌-◌, ◌≤◌, None, List, ◌++◌, length, take, drop, All}
use Rattle.std.specs.List.{between}
use Rattle.bib_spec.specs.Bytes.{name_limit, file_limit}
use Rattle.bib_spec.specs.Text.{Text}
use Rattle.bib_spec.specs.Clean.{IsClean}
use Rattle.bib_spec.specs.Reading as reading
use Rattle.bib_spec.specs.Reading.{Reading, Reads, IsItem}
use Rattle.bib_spec.specs.Texts.{months, raw_texts_from}
use Rattle.bib_spec.specs.Pieces.{Piece, Fit, applied}
use Rattle.bib_items.specs.declared.list.Item.{Item}
use Rattle.bib_items.specs.Items.{all_stored}
use Rattle.bib_store.specs.declared.change.Change.{Change}
use Rattle.bib_store.specs.declared.tables.Tables.{Tables}
use Rattle.bib_store.specs.TablesOf.{AreTablesOf}
use Rattle.bib_store.specs.Following.{MayPassBetween}
use Rattle.bib_store.specs.ItemTexts.{first_too_long}
use Rattle.history_spec.specs.Shifting.{all_moved_back, FitAfter}
use Rattle.bib_store.specs.Stored.{file_of}
use Rattle.bib_store.specs.Windows.{HasLead, IsChange, ArePut, bytes_before, bytes_within}

-- the pieces lie in the window of the change, and make its text of the window's bytes
pub record LieIn (pieces : List Piece) (front : Text) (items : List Item) (c : Change) : Type 0 where
  pub fit : FitAfter (length (bytes_before c.window front items)) pieces (bytes_within c.window front items)
  pub text : c.text ≡ applied (all_moved_back (length (bytes_before c.window front items)) pieces) (bytes_within c.window front items)

-- The change that a run of pieces makes: they lie in its window, which ends among the first n items.
pub record IsRunChange (run : List Piece) (front : Text) (items : List Item) (n : ℕ) (c : Change) : Type 0 where
  pub change : IsChange run front items c
  pub lie : LieIn run front items c
  pub to : c.window.to ≤ n

-- The `count` items of the change are in the list before those of its window. The first `lead` items of each are the
-- lead; the others may come and go in the tables.
pub record AreInserted (c : Change) (t : Tables) (old now : List Item) (count lead : ℕ) : Type 0 where
  pub put : ArePut c old now count
  pub leads : HasLead c.window count lead
  pub come : MayPassBetween t (c.window.from + lead) (c.window.from + count) now
  pub gone : MayPassBetween t (c.window.from + count + lead) (c.window.to + count) now

-- ---- how the tables follow

-- the tables say how long the file is, which is not too long
pub record IsMeasured (front : Text) (items : List Item) (t : Tables) : Type 0 where
  pub len : t.file_len ≡ length (file_of front items)
  pub short : t.file_len ≤ file_limit

-- if the old tables measured the old items, the new ones measure the new items
abbrev pub StaysMeasured : List Item → Tables → List Item → Tables → Type 0
StaysMeasured items t new_items new_t = (front : Text) → IsMeasured front items t → IsMeasured front new_items new_t

-- the items are those of a file, no raw text of theirs is too long, and the tables say what holds of them, perhaps with
-- another length
pub record AreFollowed (items : List Item) (t : Tables) : Type 0 where
  pub all : List reading.Item
  pub good : All (IsItem name_limit) all
  pub same : items ≡ all_stored all
  pub tables : AreTablesOf all t
  pub texts : first_too_long (raw_texts_from 0 months all) ≡ None

-- If the old tables follow the old items and at most `most` others after them, the new tables follow the new items and
-- the same others. The others need not be those of the list: the list has the new items of a run before its old ones, so
-- that a definition whose trail alone changes is there twice.
abbrev pub StayFollowed : ℕ → List Item → Tables → List Item → Tables → Type 0
StayFollowed most items t new_items new_t = (rest : List Item) → length rest ≤ most → AreFollowed (items ++ rest) t → AreFollowed (new_items ++ rest) new_t

-- the tables follow the items that were inserted for a change before its window, and those of the window except its lead
abbrev pub FollowInserted : Change → ℕ → List Item → Tables → Tables → Type 0
FollowInserted c lead old t new_t = (inner : Reading) → Reads c.text inner
    → StayFollowed (length old - c.window.to) (take c.window.to old) t (take c.window.from old ++ (all_stored inner.items ++ between (c.window.from + lead) c.window.to old)) new_t

-- Once the items that were inserted for a change are gone again, except the lead, any tables that follow what is left follow
-- the old items as well.
abbrev pub ComesBack : Change → ℕ → List Item → Type 0
ComesBack c lead old = (inner : Reading) → Reads c.text inner → (rest : List Item) → (before after : Tables) → AreFollowed (take c.window.to old ++ rest) before
    → AreFollowed ((take c.window.from old ++ take lead (all_stored inner.items)) ++ (between (c.window.from + lead) c.window.to old ++ rest)) after → AreFollowed (take c.window.to old ++ rest) after

-- ---- where the pieces lead

-- The pieces lead from the front and the first n items to another front and other items, which the tables follow. The items
-- after the first n stay.
pub record LeadWithin (pieces : List Piece) (n : ℕ) (front : Text) (old : List Item) (t : Tables) (new_front : Text) (new : List Item) (new_t : Tables) : Type 0 where
  pub first : List Item
  pub stay : new ≡ first ++ drop n old
  pub clean : IsClean front → IsClean new_front
  pub fit : Fit pieces (file_of front (take n old))
  pub made : file_of new_front first ≡ applied pieces (file_of front (take n old))
  pub followed : StayFollowed (length old - n) (take n old) t first new_t
