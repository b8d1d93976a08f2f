-- An entry in the code, ready to be compared.
use Rattle.std.specs.Prelude.{◌≡◌, true, false, map, Option, None, Some}
use Rattle.bib_spec.specs.Bytes.{name_limit}
use Rattle.bib_spec.specs.Tree.{Entry, IsEntry, Tree, EntryTree}
use Rattle.bib_spec.specs.Texts.{Macros}
use Rattle.bib_scan.specs.View.{field_seen, fields_of}
use Rattle.bib_definitions.specs.MacrosSeen.{macros_seen}
use Rattle.merge_spec.specs.Conflicts.{is_single}
use Rattle.bib_sayings.specs.FieldTables.{IsTableOfRows}
use Rattle.bib_fields.specs.declared.version.Version.{Version}

-- the version is that of this entry, which has each of its fields once, with these macros before it
pub record IsVersion (v : Version) (known : Macros) (e : Entry) : Type 0 where
  pub is : IsEntry name_limit e
  pub kind : v.type_name.now ≡ e.opening.head.type_name
  pub fields : map field_seen v.fields.items ≡ fields_of (EntryTree e)
  pub table : IsTableOfRows v.table e.rows
  pub macros : macros_seen v.macros ≡ known
  pub single : is_single e ≡ true

-- the version is that of the item; if there is none, the item is no entry, or a field is there twice
abbrev pub MayBeVersion : Option Version → Macros → Tree → Type 0
MayBeVersion (Some v) macros tree = (e : Entry) × (tree ≡ EntryTree e) × IsVersion v macros e
MayBeVersion None macros tree = (e : Entry) → tree ≡ EntryTree e → is_single e ≡ false
