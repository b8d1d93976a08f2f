-- An entry of a side in the code.
use Rattle.std.specs.Prelude.{◌≡◌, map, Option, None, Some, ⊤}
use Rattle.bib_spec.specs.Bytes.{name_limit}
use Rattle.bib_spec.specs.Text.{Text}
use Rattle.bib_spec.specs.Tree.{Entry, IsEntry, Tree, EntryTree}
use Rattle.bib_scan.specs.View.{view_of, field_seen, fields_of}
use Rattle.bib_fields.specs.declared.writing.Source.{Source}

-- the source is this entry
pub record IsSource (s : Source) (e : Entry) : Type 0 where
  pub is : IsEntry name_limit e
  pub trail : Text
  pub item : s.item ≡ view_of (record { tree = EntryTree e; trail = trail })
  pub fields : map field_seen s.fields.items ≡ fields_of (EntryTree e)

-- the source is that of the item, which is an entry
abbrev pub MayBeSource : Option Source → Tree → Type 0
MayBeSource (Some s) tree = (e : Entry) × (tree ≡ EntryTree e) × IsSource s e
MayBeSource None tree = ⊤
