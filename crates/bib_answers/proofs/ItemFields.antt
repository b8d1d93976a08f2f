-- The fields that a view tells of an item.
use Rattle.bib_answers.proofs.Words.{⊎_elim, ◌≡◌, ◌∙◌, ℕ, suc, ◌<◌, ◌≤◌, Bool, true, false, List, [], ◌∷◌, ◌++◌, length, map, Some, All, slice_get, refl, sym, ap, subst, append-nil, append_assoc, false≢true, slice_get_within, get_or_from_slice_get, slice_get_cases, Text, Tree, CommentTree, DefinitionTree, PreambleTree}
use Rattle.bib_answers.proofs.Words.{EntryTree, Item, Reading, months, macros_at, entries_of, is_repeated, View, Field, view_of, fields_of, kind_of, key_of, is_entry_tree, entry_items, Assigned, assigned, defined_in, field_reports, reports_on, entries_before, AreFieldsOf, AreSound}
use Rattle.std.proofs.Common.{option_and_then, arith}
use Rattle.bib_spec.specs.Bytes.{name_limit}
use Rattle.bib_spec.specs.Tree.{Row, Assignment, IsTree, IsRow, IsAssignment, value_bytes, row_bytes}
use Rattle.bib_spec.specs.Reading.{Reads, IsItem}
use Rattle.bib_spec.specs.Records.{texts_of, crossref_text, target}
use Rattle.bib_scan.specs.View.{fields_after}
use Rattle.bib_scan.specs.declared.view.Kind.{Kind}
use Rattle.folded_map.proofs.Entries.{name_short}
use Rattle.bib_answers.specs.Check.{row_assigned, of_entry, repeated_report, crossref_report, item_reports}
use Rattle.bib_answers.proofs.ItemCounts.{number_within, among_passing}
use Rattle.bib_store.proofs.EntryItems.{entry_of_item, key_seen}
use Rattle.bib_answers.specs.Fields.{Views, IsKeyOf, IsFieldOf}

field_of_assignment : (a : Assignment) (field : Field) → IsAssignment name_limit a → field.name ≡ a.name → field.value ≡ value_bytes a.value
    → IsFieldOf (a.name, a.value) field
field_of_assignment a field is named valued = record {
  name = named;
  short = name_short a.name is.name;
  value = is.value;
  bytes = sym valued;
}

fields_of_rows : (before : Text) (rows : List Row) → All (IsRow name_limit) rows → AreFieldsOf (map row_assigned rows) (fields_after before rows)
fields_of_rows before [] all = tt
fields_of_rows before (row ∷ rows) all = (
  field_of_assignment row.assignment _ (all 0 row (omega arith)).assignment refl refl,
  fields_of_rows (before ++ row_bytes row) rows (λ k d within. all (suc k) d (omega (arith, within))),
)

fields_of_tree : (tree : Tree) → IsTree name_limit tree → AreFieldsOf (assigned tree) (fields_of tree)
fields_of_tree (CommentTree h) is = tt
fields_of_tree (DefinitionTree d) is = (field_of_assignment d.assignment _ is.assignment refl refl, tt)
fields_of_tree (PreambleTree p) is = (record { name = refl; short = omega arith; value = is.value; bytes = refl }, tt)
fields_of_tree (EntryTree e) is = fields_of_rows _ e.rows is.rows

sound_of : (values : List Assigned) (fields : List Field) → AreFieldsOf values fields → AreSound fields
sound_of [] [] are = tt
sound_of [] (field ∷ fields) are = absurd are
sound_of (a ∷ values) [] are = absurd are
sound_of (a ∷ values) (field ∷ fields) are = (
  record {
    short = subst (λ (t : Text). length t ≤ name_limit) (sym are.0.name) are.0.short;
    value = (a.1, are.0.value, are.0.bytes);
  },
  sound_of values fields are.1,
)

-- item n of a file, with its view
pub record IsViewed (db : Reading) (n : ℕ) (view : View) : Type 0 where
  pub item : Item
  pub at : slice_get db.items n ≡ Some item
  pub view_is : view ≡ view_of item
  pub fields : AreFieldsOf (assigned item.tree) view.fields

pub viewed : (file : Text) (db : Reading) (n : ℕ) (view : View) → Reads file db → n < length db.items → Views db n view → IsViewed db n view
viewed file db n view reads within views = ⊎_elim
    (λ a.
    let is : view ≡ view_of a.0 = views a.0 a.2 in
    let tree : IsItem name_limit a.0 = subst (IsItem name_limit) a.3 (reads.items n a.0 within) in
    record {
      item = a.0;
      at = a.2;
      view_is = is;
      fields = subst (λ (v : View). AreFieldsOf (assigned a.0.tree) v.fields) (sym is) (fields_of_tree a.0.tree tree.tree);
    })
    (λ b. absurd (let few = b.0 in omega (arith, within, few)))
    (slice_get_cases db.items n).1

-- its tree is one of the grammar
pub viewed_tree : (file : Text) (db : Reading) (n : ℕ) (view : View) → Reads file db → (is : IsViewed db n view) → IsTree name_limit is.item.tree
viewed_tree file db n view reads is =
    let within = slice_get_within db.items n is.item is.at in
    let item : IsItem name_limit is.item = subst (IsItem name_limit) (get_or_from_slice_get db.items n is.item is.item is.at) (reads.items n is.item within) in
    item.tree

pub viewed_sound : (db : Reading) (n : ℕ) (view : View) → IsViewed db n view → AreSound view.fields
viewed_sound db n view is = sound_of (assigned is.item.tree) view.fields is.fields

-- what is said of its kind is said of it
pub told_entry : (db : Reading) (n : ℕ) (view : View) (kind : Kind) (told : Bool) (is : IsViewed db n view) → kind ≡ view.kind
    → ((tree : Tree) → kind_of tree ≡ kind → told ≡ is_entry_tree tree) → told ≡ is_entry_tree is.item.tree
told_entry db n view kind told is same tells = tells is.item.tree (sym (same ∙ ap (λ (v : View). v.kind) is.view_is))

pub entry_within : (db : Reading) (n : ℕ) (view : View) (entries : ℕ) (is : IsViewed db n view) → is_entry_tree is.item.tree ≡ true → entries ≡ entries_before db n
    → entries < length (entries_of db)
entry_within db n view entries is entry before =
    let within = number_within db n is.item (slice_get_within db.items n is.item is.at) is.at entry in
    omega (arith, within, before)

-- and its key is that of the entry
pub entry_key : (db : Reading) (n : ℕ) (view : View) (entries : ℕ) (is : IsViewed db n view) → is_entry_tree is.item.tree ≡ true → entries ≡ entries_before db n
    → (key : Text) → key ≡ view.key → IsKeyOf db entries key
entry_key db n view entries is entry before key key_is =
    let at : slice_get (entry_items db.items) entries ≡ Some is.item =
    ap (slice_get (entry_items db.items)) before ∙ among_passing (λ i. is_entry_tree i.tree) db.items n is.item is.at entry in
    let e = entry_of_item db entries is.item at in
    (texts_of (macros_at months db.items e.number) e.entry, e.texts, sym (key_seen db entries is.item e key view key_is is.view_is))

-- ---- the reports on an item

entry_shown : (tree : Tree) (t : Text) → is_entry_tree tree ≡ true → of_entry (kind_of tree) t ≡ t
entry_shown (CommentTree h) t is = absurd (false≢true is)
entry_shown (DefinitionTree d) t is = absurd (false≢true is)
entry_shown (PreambleTree p) t is = absurd (false≢true is)
entry_shown (EntryTree e) t is = refl

other_shown : (tree : Tree) (t : Text) → is_entry_tree tree ≡ false → of_entry (kind_of tree) t ≡ []
other_shown (CommentTree h) t is = refl
other_shown (DefinitionTree d) t is = refl
other_shown (PreambleTree p) t is = refl
other_shown (EntryTree e) t is = absurd (false≢true (sym is))

-- the reports on an item's fields, by its view
abbrev pub view_reports : Reading → ℕ → View → Tree → Text
view_reports db n view tree = field_reports (defined_in view.kind) (macros_at months db.items n) view.key [] (assigned tree)

module _ (db : Reading) (n : ℕ) (view : View) (is : IsViewed db n view) (out : Text) where
  abbrev tree : Tree
  tree = is.item.tree

  abbrev reports : Text
  reports = field_reports (defined_in (kind_of tree)) (macros_at months db.items n) (key_of tree) [] (assigned tree)

  by_view : view_reports db n view tree ≡ reports
  by_view = ap (λ (v : View). view_reports db n v tree) is.view_is

  on_item : reports_on db n ≡ item_reports (entries_of db) (macros_at months db.items n) (entries_before db n) tree
  on_item = rw is.at refl

  -- of another item than an entry
  pub other_reported : is_entry_tree is.item.tree ≡ false → out ++ view_reports db n view is.item.tree ≡ out ++ reports_on db n
  other_reported other = ap (λ (t : Text). out ++ t) (by_view ∙ sym (on_item ∙
      ap (λ (t : Text). t ++ (reports ++ of_entry (kind_of tree) (crossref_report (key_of tree) (entries_before db n) (option_and_then crossref_text (slice_get (entries_of db) (entries_before db n))) (target (entries_of db) (entries_before db n))))) (other_shown tree _ other)
      ∙ ap (λ (t : Text). reports ++ t) (other_shown tree _ other)
      ∙ append-nil reports))

  -- of an entry
  pub entry_reported : is_entry_tree is.item.tree ≡ true
      → ((out ++ repeated_report (is_repeated (entries_of db) (entries_before db n)) view.key) ++ view_reports db n view is.item.tree)
      ++ crossref_report view.key (entries_before db n) (option_and_then crossref_text (slice_get (entries_of db) (entries_before db n))) (target (entries_of db) (entries_before db n))
      ≡ out ++ reports_on db n
  entry_reported entry =
      let of_view : (v : View) → Text = λ v. ((out ++ repeated_report (is_repeated (entries_of db) (entries_before db n)) v.key) ++ view_reports db n v tree) ++ crossref_report v.key (entries_before db n) (option_and_then crossref_text (slice_get (entries_of db) (entries_before db n))) (target (entries_of db) (entries_before db n)) in
      ap of_view is.view_is
      ∙ append_assoc (out ++ repeated_report (is_repeated (entries_of db) (entries_before db n)) (key_of tree)) reports _
      ∙ append_assoc out (repeated_report (is_repeated (entries_of db) (entries_before db n)) (key_of tree)) _
      ∙ ap (λ (t : Text). out ++ t) (sym (on_item ∙ rw (entry_shown tree _ entry, entry_shown tree _ entry) refl))
