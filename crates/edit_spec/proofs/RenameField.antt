-- RenameField: an entry whose fields have other names is an entry, and all that the database says stays, except for these names.
use Rattle.edit_spec.proofs.Words.{◌≡◌, ◌&&◌, ℕ, zero, suc, Bool, true, false, not, List, ◌∷◌, ◌++◌, Option, Some, None, unwrap_or, option_map, slice_get, All, ⊎_elim, refl, sym, ◌∙◌, ap, ap₂, subst, map, find, length, cases_Bool, cond-true, cond-false, and_parts, not-true, All-nil, All-cons, All-head, All-tail, name_limit, Text, folded, same, is_name}
use Rattle.edit_spec.proofs.Words.{Row, Delimiter, Entry, Tree, CommentTree, DefinitionTree, PreambleTree, EntryTree, IsSpace, IsRow, IsTree, Item, Reading, bytes_of, IsItem, Reads, Macros, months, raw_text, macros_after, macros_at, gathered, Field, EntryTexts, Record, field_of, texts_of, entry_in, preamble_in, entries_of, preambles_of, keys_of, entry_named}
use Rattle.edit_spec.proofs.Words.{crossref, crossref_text, field_text, has_name, parent, RenameField, is_entry, with_first_tree, of_entry, changed, name_renamed, IsAccepted}
use Rattle.std.proofs.Common.{[]}
use Rattle.std.proofs.lemmas.Option.{slice_get-map}
use Rattle.std.proofs.lemmas.List.{length-map}
use Rattle.bib_spec.proofs.Names.{same_of, same-true}
use Rattle.edit_spec.specs.Edits.{row_renamed, entry_renamed, rename_field}
use Rattle.edit_spec.specs.Laws.{field_renamed, texts_renamed, is_renamed_in, KeepsAllButNames, KeepsMacros, KeepsCitations, rename_field_keeps}
use Rattle.edit_spec.proofs.Unrefuted.{given_names-are, crossref-is_left}
use Rattle.edit_spec.proofs.WrittenRows.{EndsKey, ends_at_row, are_rows, entry-is}
use Rattle.edit_spec.proofs.EditedItems.{AreItems, made_reads, item_as, from_first-are, comment-of_entry}
use Rattle.edit_spec.proofs.KeptEntries.{parent-kept, listed-kept, unknown-kept}
use Rattle.edit_spec.proofs.FirstEntries.{is_number, first_changed, entries-changed, preambles-kept, macros-kept, macros-of_entry, entry-changed, keys-kept, length-kept}

-- ---- names

module _ (from to : Text) where
  pub renamed-yes : (name : Text) → same name from ≡ true → changed (name_renamed from to) name ≡ to
  renamed-yes name e = ap (λ o. unwrap_or o name) (cond-true (same name from) (Some to) None e)

  pub renamed-no : (name : Text) → same name from ≡ false → changed (name_renamed from to) name ≡ name
  renamed-no name e = ap (λ o. unwrap_or o name) (cond-false (same name from) (Some to) None e)

  -- ---- an entry of the grammar

  module _ (named : is_name to ≡ true) where
    name_is : (name : Text) → is_name name ≡ true → is_name (changed (name_renamed from to) name) ≡ true
    name_is name is = ⊎_elim
        (λ e. subst (λ t. is_name t ≡ true) (sym (renamed-yes name e)) named)
        (λ e. subst (λ t. is_name t ≡ true) (sym (renamed-no name e)) is)
        (cases_Bool (same name from))

    rows_are : (rows : List Row) → All (IsRow name_limit) rows → All (IsRow name_limit) (map (row_renamed from to) rows)
    rows_are [] are = All-nil (IsRow name_limit)
    rows_are (row ∷ rows) are =
        let is = All-head (IsRow name_limit) row rows are in
        All-cons (IsRow name_limit) (row_renamed from to row) (map (row_renamed from to) rows)
        (record {
          space_before_name = is.space_before_name;
          assignment = record {
            name = name_is row.assignment.name is.assignment.name;
            space_before_equals = is.assignment.space_before_equals;
            space_before_value = is.assignment.space_before_value;
            value = is.assignment.value;
            space_after = is.assignment.space_after;
          };
        })
        (rows_are rows (All-tail (IsRow name_limit) row rows are))

    ends_still : (d : Delimiter) (space : Text) (rows : List Row) (last : Option Text) → IsSpace space → EndsKey d space rows last → EndsKey d space (map (row_renamed from to) rows) last
    ends_still d space [] last s ends = ends
    ends_still d space (row ∷ rows) last s ends = ends_at_row d space (row_renamed from to row) (map (row_renamed from to) rows) last s

    pub tree_is : (tree : Tree) → IsTree name_limit tree → IsTree name_limit (of_entry (entry_renamed from to) tree)
    tree_is (CommentTree h) is = is
    tree_is (DefinitionTree d) is = is
    tree_is (PreambleTree p) is = is
    tree_is (EntryTree e) is =
        entry-is e e.key e.space_after_key (map (row_renamed from to) e.rows) is is.key is.key_len is.empty_key
        (are_rows e.space_after_key (map (row_renamed from to) e.rows) is.space_after_key (rows_are e.rows is.rows))
        (ends_still e.opening.delimiter e.space_after_key e.rows e.last_comma is.space_after_key is.key_ends)

    abbrev renamed_item : Item → Item
    renamed_item item = record item { tree = of_entry (entry_renamed from to) item.tree }

    item_is : (item : Item) → IsItem name_limit item → IsItem name_limit (renamed_item item)
    item_is item is = item_as item (of_entry (entry_renamed from to) item.tree) is (tree_is item.tree is.tree) (comment-of_entry [] (entry_renamed from to) item.tree)

    items_are : (items : List Item) → AreItems items → AreItems (map renamed_item items)
    items_are [] are = All-nil (IsItem name_limit)
    items_are (item ∷ items) are =
        All-cons (IsItem name_limit) (renamed_item item) (map renamed_item items) (item_is item (All-head (IsItem name_limit) item items are)) (items_are items (All-tail (IsItem name_limit) item items are))

    renamed_reads : (file : Text) (db : Reading) (key : Option Text) → Reads file db → Reads (bytes_of (rename_field from to key db)) (rename_field from to key db)
    renamed_reads file db None reads = made_reads (rename_field from to None db) reads.front (items_are db.items reads.items)
    renamed_reads file db (Some key) reads = made_reads (rename_field from to (Some key) db) reads.front
        (from_first-are (is_entry key) (IsItem name_limit) (with_first_tree (of_entry (entry_renamed from to)))
        (λ item items named are. All-cons (IsItem name_limit) (renamed_item item) items (item_is item (All-head (IsItem name_limit) item items are)) (All-tail (IsItem name_limit) item items are))
        db.items reads.items)

  -- ---- the texts of entries

  abbrev pub become : EntryTexts → EntryTexts
  become entry = texts_renamed from to true entry

  fields-become : (m : Macros) (rows : List Row) → map (field_of m) (map (row_renamed from to) rows) ≡ map (field_renamed from to) (map (field_of m) rows)
  fields-become m [] = refl
  fields-become m (row ∷ rows) = ap (λ fields. field_of m (row_renamed from to row) ∷ fields) (fields-become m rows)

  pub texts : (m : Macros) (e : Entry) → texts_of m (entry_renamed from to e) ≡ become (texts_of m e)
  texts m e = ap (λ fields. let it : EntryTexts = record { kind = e.opening.head.type_name; key = e.key; fields = fields } in it) (fields-become m e.rows)

  -- in every entry
  abbrev each : Item → Item
  each item = record item { tree = of_entry (entry_renamed from to) item.tree }

  entries-each : (items : List Item) (m : Macros) → gathered entry_in m (map each items) ≡ map become (gathered entry_in m items)
  entries-each [] m = refl
  entries-each (item ∷ items) m = by_tree (entries-each items) item.tree
    where
      by_tree : ((m : Macros) → gathered entry_in m (map each items) ≡ map become (gathered entry_in m items)) → (tree : Tree) →
          gathered entry_in m (record { tree = of_entry (entry_renamed from to) tree; trail = item.trail } ∷ map each items) ≡ map become (entry_in m tree ++ gathered entry_in (macros_after m tree) items)
      by_tree rest (CommentTree h) = rest m
      by_tree rest (PreambleTree p) = rest m
      by_tree rest (DefinitionTree d) = rest (macros_after m (DefinitionTree d))
      by_tree rest (EntryTree e) = ap₂ ◌∷◌ (texts m e) (rest m)

  preambles-each : (items : List Item) (m : Macros) → gathered preamble_in m (map each items) ≡ gathered preamble_in m items
  preambles-each [] m = refl
  preambles-each (item ∷ items) m = by_tree (preambles-each items) item.tree
    where
      by_tree : ((m : Macros) → gathered preamble_in m (map each items) ≡ gathered preamble_in m items) → (tree : Tree) →
          gathered preamble_in m (record { tree = of_entry (entry_renamed from to) tree; trail = item.trail } ∷ map each items) ≡ preamble_in m tree ++ gathered preamble_in (macros_after m tree) items
      by_tree rest (CommentTree h) = rest m
      by_tree rest (PreambleTree p) = ap (λ preambles. raw_text m p.value ∷ preambles) (rest m)
      by_tree rest (DefinitionTree d) = rest (macros_after m (DefinitionTree d))
      by_tree rest (EntryTree e) = rest m

  macros-each : (items : List Item) (m : Macros) (k : ℕ) → macros_at m (map each items) k ≡ macros_at m items k
  macros-each [] m zero = refl
  macros-each [] m (suc k) = refl
  macros-each (item ∷ items) m zero = refl
  macros-each (item ∷ items) m (suc k) =
      ap (λ after. macros_at after (map each items) k) (macros-of_entry (entry_renamed from to) m item.tree) ∙ macros-each items (macros_after m item.tree) k

  keys-each : (entries : List EntryTexts) → keys_of (map become entries) ≡ keys_of entries
  keys-each [] = refl
  keys-each (entry ∷ entries) = ap (λ keys. entry.key ∷ keys) (keys-each entries)

  -- ---- crossrefs

  module _ (left : (same from crossref ≡ false) × (same to crossref ≡ false)) where
    pub crossref-left : (field : Field) → has_name crossref (field_renamed from to field) ≡ has_name crossref field
    crossref-left field = ⊎_elim
        (λ e. ap (λ name. same name crossref) (renamed-yes field.name e) ∙ left.1 ∙ sym (same_of field.name crossref from crossref (same-true field.name from e) refl ∙ left.0))
        (λ e. ap (λ name. same name crossref) (renamed-no field.name e))
        (cases_Bool (same field.name from))

    find-renamed : (fields : List Field) →
        option_map (λ field. field_text field.raw) (find (has_name crossref) (map (field_renamed from to) fields)) ≡ option_map (λ field. field_text field.raw) (find (has_name crossref) fields)
    find-renamed [] = refl
    find-renamed (field ∷ fields) = ⊎_elim
        (λ e. ap (option_map (λ field. field_text field.raw))
        (cond-true (has_name crossref (field_renamed from to field)) (Some (field_renamed from to field)) (find (has_name crossref) (map (field_renamed from to) fields)) (crossref-left field ∙ e))
        ∙ sym (ap (option_map (λ field. field_text field.raw)) (cond-true (has_name crossref field) (Some field) (find (has_name crossref) fields) e)))
        (λ e. ap (option_map (λ field. field_text field.raw))
        (cond-false (has_name crossref (field_renamed from to field)) (Some (field_renamed from to field)) (find (has_name crossref) (map (field_renamed from to) fields)) (crossref-left field ∙ e))
        ∙ find-renamed fields
        ∙ sym (ap (option_map (λ field. field_text field.raw)) (cond-false (has_name crossref field) (Some field) (find (has_name crossref) fields) e)))
        (cases_Bool (has_name crossref field))

    crossrefs : (b : Bool) (entry : EntryTexts) → crossref_text (texts_renamed from to b entry) ≡ crossref_text entry
    crossrefs true entry = find-renamed entry.fields
    crossrefs false entry = refl

    -- ---- what stays, from the entries

    module _ (db new : Reading) (is_renamed : ℕ → Bool) (at : (n : ℕ) → slice_get (entries_of new) n ≡ option_map (texts_renamed from to (is_renamed n)) (slice_get (entries_of db) n))
        (keys : keys_of (entries_of new) ≡ keys_of (entries_of db)) (long : length (entries_of new) ≡ length (entries_of db))
      where
        abbrev by_number : ℕ → EntryTexts → EntryTexts
        by_number n entry = texts_renamed from to (is_renamed n) entry

        pub parents-renamed : (n : ℕ) → parent (entries_of new) n ≡ parent (entries_of db) n
        parents-renamed n = parent-kept by_number (entries_of db) (entries_of new) keys at (λ n entry. crossrefs (is_renamed n) entry) n

        pub all-kept : preambles_of new ≡ preambles_of db → ((k : ℕ) → macros_at months new.items k ≡ macros_at months db.items k) →
            KeepsAllButNames from to is_renamed db new × KeepsMacros db new × KeepsCitations db new
        all-kept preambles macros = (
          record { count = long; entries = at; parents = parents-renamed; preambles = preambles },
          (λ n name. ap (λ m. m (folded name)) (macros n)),
          record {
            cited = λ cited min. listed-kept by_number (entries_of db) (entries_of new) keys at (λ n entry. crossrefs (is_renamed n) entry) long cited min;
            unknowns = λ cited. unknown-kept by_number (entries_of db) (entries_of new) keys at (λ n entry. crossrefs (is_renamed n) entry) cited;
          },
        )

    module _ (db : Reading) where
      pub each-entries : entries_of (rename_field from to None db) ≡ map become (entries_of db)
      each-entries = entries-each db.items months

      pub each-at : (n : ℕ) → slice_get (entries_of (rename_field from to None db)) n ≡ option_map become (slice_get (entries_of db) n)
      each-at n = ap (λ s. slice_get s n) each-entries ∙ slice_get-map become (entries_of db) n

      pub each-keys : keys_of (entries_of (rename_field from to None db)) ≡ keys_of (entries_of db)
      each-keys = ap keys_of each-entries ∙ keys-each (entries_of db)

      pub each-long : length (entries_of (rename_field from to None db)) ≡ length (entries_of db)
      each-long = ap length each-entries ∙ length-map (entries_of db) become

      kept : (key : Option Text) → KeepsAllButNames from to (is_renamed_in db key) db (rename_field from to key db) × KeepsMacros db (rename_field from to key db) × KeepsCitations db (rename_field from to key db)
      kept None = all-kept db (rename_field from to None db) (λ n. true) each-at each-keys each-long (preambles-each db.items months) (macros-each db.items months)
      kept (Some key) = all-kept db (rename_field from to (Some key) db) (is_number (entry_named (entries_of db) key))
          (λ n. ap (λ s. slice_get s n) entries ∙ entry-changed key (entry_renamed from to) become texts (entries_of db) n)
          (ap keys_of entries ∙ keys-kept key (entry_renamed from to) become texts (λ entry. refl) (entries_of db))
          (ap length entries ∙ length-kept key (entry_renamed from to) become texts (entries_of db))
          (preambles-kept key (entry_renamed from to) become texts db.items months) (macros-kept key (entry_renamed from to) become texts db.items months)
        where
          entries : entries_of (rename_field from to (Some key) db) ≡ first_changed key (entry_renamed from to) become texts (entries_of db)
          entries = entries-changed key (entry_renamed from to) become texts db.items months

-- ---- an accepted edit

module _ (key_base : Record → Text) (db : Reading) (from to : Text) (key : Option Text) (accepted : IsAccepted key_base db (RenameField from to key)) where
  pub crossref-stays : (same from crossref ≡ false) × (same to crossref ≡ false)
  crossref-stays =
      let both = and_parts (not (same from crossref)) (not (same to crossref)) (crossref-is_left key_base db (RenameField from to key) accepted) in
      (not-true (same from crossref) both.0, not-true (same to crossref) both.1)

  to-named : is_name to ≡ true
  to-named = (and_parts (is_name to) true (and_parts (is_name from) (is_name to && true) (given_names-are key_base db (RenameField from to key) accepted)).1).0

pub rename_field-reads : (key_base : Record → Text) (file : Text) (db : Reading) (from to : Text) (key : Option Text) → Reads file db → IsAccepted key_base db (RenameField from to key) →
    Reads (bytes_of (rename_field from to key db)) (rename_field from to key db)
rename_field-reads key_base file db from to key reads accepted = renamed_reads from to (to-named key_base db from to key accepted) file db key reads

pub rename-field-keeps : rename_field_keeps
rename-field-keeps key_base db from to key accepted = kept from to (crossref-stays key_base db from to key accepted) db key
