-- Items that each replace another.
use Rattle.std.specs.Prelude.{ℕ, ◌≡◌, true, List, ◌++◌, length, None, All}
use Rattle.bib_spec.specs.Bytes.{name_limit}
use Rattle.bib_spec.specs.Text.{Text}
use Rattle.bib_spec.specs.Tree.{Tree}
use Rattle.bib_spec.specs.Reading.{Item, IsItem}
use Rattle.bib_spec.specs.Texts.{months, raw_texts_from}
use Rattle.bib_scan.specs.View.{key_of}
use Rattle.bib_store.specs.declared.bounds.Bounds.{Bounds}
use Rattle.bib_store.specs.declared.tables.Tables.{Tables}
use Rattle.bib_store.specs.TablesOf.{AreTablesOf}
use Rattle.bib_store.specs.Following.{AreItemsOf}
use Rattle.bib_store.specs.ItemTexts.{first_too_long}
use Rattle.bib_store.specs.Readings.{is_entry_tree}

-- both are entries, with the same key
pub record HaveOneKey (old new : Tree) : Type 0 where
  pub old_is : is_entry_tree old ≡ true
  pub new_is : is_entry_tree new ≡ true
  pub key : key_of old ≡ key_of new

-- the items with these bodies, from number n on, are replaced by others: the tables say what holds then, and if no raw
-- text was too long, none is
pub record TakePlaces (n : ℕ) (bodies : List Text) (new : List Item) (t now : Tables) : Type 0 where
  pub tables : (before old after : List Item) → length before ≡ n → AreItemsOf bodies old → AreTablesOf (before ++ (old ++ after)) t → AreTablesOf (before ++ (new ++ after)) now
  pub texts : (before old after : List Item) → length before ≡ n → AreItemsOf bodies old → AreTablesOf (before ++ (old ++ after)) t → All (IsItem name_limit) (before ++ (old ++ after))
      → first_too_long (raw_texts_from 0 months (before ++ (old ++ after))) ≡ None → first_too_long (raw_texts_from 0 months (before ++ (new ++ after))) ≡ None

-- the tables with other bounds
abbrev pub with_bounds : Bounds → Tables → Tables
with_bounds bounds t = record {
  file_len = t.file_len;
  entries = t.entries;
  preambles = t.preambles;
  named = t.named;
  definitions = t.definitions;
  bounds = bounds;
}
