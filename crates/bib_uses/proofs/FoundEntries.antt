-- The entry that a key finds, as an item.
use Rattle.std.proofs.Common.{◌≡◌, ℕ, ◌<◌, List, [], Option, None, Some, slice_get, option_and_then, length, refl, sym, ◌∙◌, ap, subst}
use Rattle.std.specs.Option.{option_map_or}
use Rattle.std.proofs.lemmas.Option.{slice_get_within, get_or_from_slice_get, same_Some}
use Rattle.std.specs.Borrow.{Bor}
use Rattle.bib_spec.specs.Bytes.{name_limit}
use Rattle.bib_spec.specs.Text.{Text}
use Rattle.bib_spec.specs.Tree.{Entry, EntryTree, IsTree, IsEntry}
use Rattle.bib_spec.specs.Reading.{Item, Reading, Reads}
use Rattle.bib_spec.specs.Records.{entries_of, entry_named}
use Rattle.bib_spec.proofs.Parents.{named_within}
use Rattle.bib_scan.specs.View.{Field, View, view_of, fields_of}
use Rattle.bib_sayings.specs.FieldTables.{value_named, IsTableOf, IsTableOfRows}
use Rattle.bib_sayings.proofs.EntriesAgree.{fields-rows, named-row, values-of}
use Rattle.bib_store.specs.Readings.{entry_numbers}
use Rattle.bib_store.proofs.EntryItems.{IsEntryAt, entry_at}
use Rattle.bib_uses.specs.Uses.{rows_in, rows_at}
use Rattle.bib_uses.specs.Lost.{item_named}

-- item n is an entry of the grammar
pub record IsEntryItem (db : Reading) (n : ℕ) : Type 0 where
  pub item : Item
  pub entry : Entry
  pub is : item.tree ≡ EntryTree entry
  pub stands : slice_get db.items n ≡ Some item
  pub within : n < length db.items
  pub grammar : IsEntry name_limit entry

-- an item of a file is one of the grammar
pub tree-in : (file : Text) (db : Reading) (n : ℕ) (i : Item) → Reads file db → slice_get db.items n ≡ Some i → IsTree name_limit i.tree
tree-in file db n i reads at =
    subst (λ (j : Item). IsTree name_limit j.tree) (get_or_from_slice_get db.items n i i at) (reads.items n i (slice_get_within db.items n i at)).tree

-- what a key finds is an entry
pub found-entry : (file : Text) (db : Reading) (key : Text) (k : ℕ) → Reads file db → item_named db key ≡ Some k → IsEntryItem db k
found-entry file db key k reads is = at (entry_named (entries_of db) key) refl is
  where
    at : (o : Option ℕ) → entry_named (entries_of db) key ≡ o → option_and_then (slice_get (entry_numbers db.items)) o ≡ Some k → IsEntryItem db k
    at None e none = cc
    at (Some m) e numbered =
        let found = entry_at db m (named_within (entries_of db) key m e) in
        let i : Item = found.0 in
        let it : IsEntryAt db m i = found.1 in
        let same : it.number ≡ k = same_Some it.number k (sym it.numbered ∙ numbered) in
        let stands : slice_get db.items k ≡ Some i = ap (slice_get db.items) (sym same) ∙ it.stands in
        record {
          item = i;
          entry = it.entry;
          is = it.is;
          stands = stands;
          within = slice_get_within db.items k i stands;
          grammar = subst (IsTree name_limit) it.is (tree-in file db k i reads stands);
        }

-- the rows of an item
pub rows-of : (db : Reading) (k : ℕ) (i : Item) (e : Entry) → slice_get db.items k ≡ Some i → i.tree ≡ EntryTree e → rows_at db k ≡ e.rows
rows-of db k i e stands is = ap (λ (o : Option Item). option_map_or (λ item. rows_in item.tree) o []) stands ∙ ap rows_in is

-- the table of the fields that are seen of an entry is that of its rows
pub seen-values : (db : Reading) (k : ℕ) (it : IsEntryItem db k) (v : View) (fields : List Field) (table : List (Text × Bor Text)) → ((i : Item) → slice_get db.items k ≡ Some i → v ≡ view_of i) → fields ≡ v.fields → IsTableOf table fields →
    IsTableOfRows table (rows_at db k)
seen-values db k it v fields table sees fields_are is =
    let tree : fields ≡ fields_of (EntryTree it.entry) = fields_are ∙ ap (λ (w : View). w.fields) (sees it.item it.stands) ∙ ap fields_of it.is in
    let zip = fields-rows it.entry it.grammar in
    subst (IsTableOfRows table) (sym (rows-of db k it.item it.entry it.stands it.is))
    (record {
      named = λ name. is name ∙ ap (λ (fs : List Field). value_named fs name) tree ∙ named-row name (fields_of (EntryTree it.entry)) it.entry.rows zip;
      values = values-of (fields_of (EntryTree it.entry)) it.entry.rows zip;
    })
