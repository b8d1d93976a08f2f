-- The version of an item.
use Rattle.std.proofs.Common.{◌≡◌, false, List, map, Option, None, Some, refl, sym, ◌∙◌, ap, subst}
use Rattle.std.specs.Borrow.{Bor}
use Rattle.bib_spec.specs.Bytes.{name_limit}
use Rattle.bib_spec.specs.Text.{Text}
use Rattle.bib_spec.specs.Tree.{Entry, IsEntry, Tree, CommentTree, DefinitionTree, PreambleTree, EntryTree, IsTree}
use Rattle.bib_spec.specs.Reading.{Item}
use Rattle.bib_spec.specs.Texts.{Macros}
use Rattle.bib_scan.specs.declared.view.Kind.TheVariants as kind
use Rattle.bib_scan.specs.View.{Field, View, view_of, kind_of, field_seen, fields_of}
use Rattle.bib_definitions.specs.MacrosSeen.{macros_seen}
use Rattle.merge_spec.specs.ThreeWay.{are_single}
use Rattle.merge_spec.specs.Conflicts.{is_single}
use Rattle.bib_sayings.specs.FieldTables.{names_of, IsTableFound}
use Rattle.bib_sayings.proofs.EntriesAgree.{rows-table, names-of_entry}
use Rattle.bib_fields.specs.declared.version.Version.{Version}
use Rattle.bib_fields.specs.Versions.{MayBeVersion}

-- the fields of the view of an entry
pub seen-fields : (v : View) (fields : List Field) (e : Entry) (trail : Text) → fields ≡ v.fields → v ≡ view_of (record { tree = EntryTree e; trail = trail }) → fields ≡ fields_of (EntryTree e)
seen-fields v fields e trail is seen = is ∙ ap (λ (w : View). w.fields) seen

-- an entry with a field twice has no version
pub twice : (e : Entry) (macros : Macros) (fields : List Field) (found : Option (List (Text × Bor Text))) → IsEntry name_limit e → fields ≡ fields_of (EntryTree e) → found ≡ None → IsTableFound found fields → MayBeVersion None macros (EntryTree e)
twice e macros fields found is are none table other same =
    let equal : e ≡ other = cc in
    let false_names : are_single (names_of fields) ≡ false = subst (λ o. IsTableFound o fields) none table in
    subst (λ (x : Entry). is_single x ≡ false) equal (sym (ap are_single (names-of_entry e fields is are)) ∙ false_names)

-- another entry has one
pub once : (e : Entry) (v : Version) (fields : List Field) → IsEntry name_limit e → v.type_name.now ≡ e.opening.head.type_name → map field_seen v.fields.items ≡ fields_of (EntryTree e) →
    fields ≡ fields_of (EntryTree e) → IsTableFound (Some v.table) fields → MayBeVersion (Some v) (macros_seen v.macros) (EntryTree e)
once e v fields is kind_is all are table = (
  e,
  refl,
  record {
    is = is;
    kind = kind_is;
    fields = all;
    table = rows-table v.table e fields is are table;
    macros = refl;
    single = sym (ap are_single (names-of_entry e fields is are)) ∙ table.0;
  },
)

-- the version of an item that is an entry
pub entry-item : (i : Item) (v : View) (macros : Macros) (version : Option Version) → IsTree name_limit i.tree → v ≡ view_of i → kind_of i.tree ≡ kind.Entry →
    ((e : Entry) (trail : Text) → IsEntry name_limit e → v ≡ view_of (record { tree = EntryTree e; trail = trail }) → MayBeVersion version macros (EntryTree e)) → MayBeVersion version macros i.tree
entry-item i v macros version is seen kind_is says = at i.tree refl is kind_is
  where
    at : (t : Tree) → i.tree ≡ t → IsTree name_limit t → kind_of t ≡ kind.Entry → MayBeVersion version macros t
    at (CommentTree h) e it k = cc
    at (DefinitionTree d) e it k = cc
    at (PreambleTree p) e it k = cc
    at (EntryTree x) e it k = says x i.trail it (seen ∙ ap (λ (t : Tree). view_of (record { tree = t; trail = i.trail })) e)
