-- A change of one entry or definition among several of its name: what it makes is a database that reads.
use Rattle.edit_spec.proofs.Words.{◌≡◌, ◌==◌, ℕ, zero, suc, Bool, true, false, List, ◌∷◌, Option, Some, None, option_map, option_and_then, slice_get, All, refl, sym, ◌∙◌, ap, subst, option_map_or, false_from_ne_true, and_parts, none-some, same_Some, cond_some, All-nil, All-cons, All-head}
use Rattle.edit_spec.proofs.Words.{All-tail, name_limit, Text, same, is_name, is_new_key, Value, Row, Delimiter, Entry, Tree, EntryTree, CommentTree, DefinitionTree, PreambleTree, is_comment, is_type, IsSpace, IsValue, IsRow, IsEntry, IsTree, Item, Reading, bytes_of, IsItem, Reads, Record, entries_of, is_named, is_entry}
use Rattle.edit_spec.proofs.Words.{WouldMerge, HasCleanTexts, of_entry, row_before, with_field, without_field, in_line, with_item, key_for, IsAccepted}
use Rattle.std.proofs.Common.{[], ◌&&◌, if◌then◌else◌}
use Rattle.edit_spec.proofs.MeantMembers.{meant-is}
use Rattle.edit_spec.specs.Edits.{Which, EntryChange, SetsField, DropsField, RenamesFields, SetsType, RenamesKey, Removes, Moves, DefinitionChange, SetsValue, Undefines, ChangeEntry, ChangeDefinition, number_of, item_meant, entry_meant, definition_meant, with_tree_at, without_item, with_later_rows, entry_with_one_field, entry_without_one_field, with_entry_at, move_item, entry_changed, change_entry, definition_changed, change_definition}
use Rattle.edit_spec.specs.Edits.{entry_with_type, entry_renamed, definition_to, tree_ends_in_key, ends_in_key}
use Rattle.edit_spec.proofs.Unrefuted.{unrefuted_texts, given_keys-are, given_names-are, given_types-are, given_values-are}
use Rattle.edit_spec.proofs.WrittenRows.{EndsKey, ends_at_row, ends_without_rows, AreRows, are_rows, row_before_space, not_empty, entry-is}
use Rattle.edit_spec.proofs.EditedItems.{AreItems, AreTrees, made_reads, trees_of, clean_reads, item_as, in_line-is, insert-are, named_not_empty, comment-of_entry, of_entry-is}
use Rattle.edit_spec.proofs.SetField.{set_rows, set_ends}
use Rattle.edit_spec.proofs.DropField.{drop_rows}
use Rattle.edit_spec.proofs.SetType.{typed_entry}
use Rattle.edit_spec.proofs.RenameField.{tree_is as renamed_tree}
use Rattle.edit_spec.proofs.SetMacro.{definition_to-is, comment-definition_to}
use Rattle.edit_spec.proofs.RekeyedEntries.{with_keys-reads}

-- ---- items

with_tree-are : (n : ℕ) (change : Tree → Tree) (items : List Item) → AreItems items →
    ((item : Item) → slice_get items n ≡ Some item → IsItem name_limit item → IsItem name_limit (record item { tree = change item.tree })) → AreItems (with_tree_at n change items)
with_tree-are n change [] are becomes = All-nil (IsItem name_limit)
with_tree-are zero change (item ∷ items) are becomes =
    All-cons (IsItem name_limit) (record item { tree = change item.tree }) items (becomes item refl (All-head (IsItem name_limit) item items are)) (All-tail (IsItem name_limit) item items are)
with_tree-are (suc n) change (item ∷ items) are becomes =
    All-cons (IsItem name_limit) item (with_tree_at n change items) (All-head (IsItem name_limit) item items are) (with_tree-are n change items (All-tail (IsItem name_limit) item items are) becomes)

without-are : (n : ℕ) (front : Text) (items : List Item) → AreTrees items → AreTrees (without_item n front items).items
without-are n front [] are = All-nil (λ item. IsTree name_limit item.tree)
without-are zero front (item ∷ items) are = All-tail (λ item. IsTree name_limit item.tree) item items are
without-are (suc n) front (item ∷ items) are =
    let rest = without_item n item.trail items in
    All-cons (λ item. IsTree name_limit item.tree) (record item { trail = rest.front }) rest.items
    (All-head (λ item. IsTree name_limit item.tree) item items are) (without-are n item.trail items (All-tail (λ item. IsTree name_limit item.tree) item items are))

-- a member at a number is one of the members
slice_get-All : (P : Item → Type 0) (items : List Item) (n : ℕ) (item : Item) → slice_get items n ≡ Some item → All P items → P item
slice_get-All P [] n item at are = absurd (none-some item at)
slice_get-All P (first ∷ items) zero item at are = subst P (same_Some first item at) (All-head P first items are)
slice_get-All P (first ∷ items) (suc n) item at are = slice_get-All P items n item at (All-tail P first items are)

-- ---- rows

module _ (name : Text) (change : Text → List Row → Text × List Row) where
  later_rows : ((before : Text) (rows : List Row) → IsSpace before → All (IsRow name_limit) rows → AreRows (change before rows)) → (k : ℕ) (before : Text) (rows : List Row) →
      IsSpace before → All (IsRow name_limit) rows → AreRows (with_later_rows name k change before rows)
  later_rows h zero before rows s are = h before rows s are
  later_rows h (suc k) before [] s are = are_rows before [] s are
  later_rows h (suc k) before (row ∷ rows) s are =
      let next : ℕ = if same row.assignment.name name then k else suc k in
      let rest = with_later_rows name next change row.assignment.space_after rows in
      let is = All-head (IsRow name_limit) row rows are in
      let later = later_rows h next row.assignment.space_after rows is.assignment.space_after (All-tail (IsRow name_limit) row rows are) in
      are_rows before (row_before rest.0 row ∷ rest.1) s (All-cons (IsRow name_limit) (row_before rest.0 row) rest.1 (row_before_space rest.0 row later.space is) later.rows)

  later_ends : (d : Delimiter) (last : Option Text) (k : ℕ) (before : Text) (rows : List Row) → IsSpace before → EndsKey d before rows last →
      EndsKey d (change before rows).0 (change before rows).1 last → EndsKey d (with_later_rows name k change before rows).0 (with_later_rows name k change before rows).1 last
  later_ends d last zero before rows s ends h = h
  later_ends d last (suc k) before [] s ends h = ends
  later_ends d last (suc k) before (row ∷ rows) s ends h =
      let rest = with_later_rows name (if same row.assignment.name name then k else suc k) change row.assignment.space_after rows in
      ends_at_row d before (row_before rest.0 row) rest.1 last s

one_set : (field : Which) (value : Value) → is_name field.name ≡ true → IsValue name_limit value → (key : Text) (e : Entry) → is_named key e.key ≡ true → IsEntry name_limit e →
    IsEntry name_limit (entry_with_one_field field value e)
one_set field value n v key e named is =
    let new = with_later_rows field.name (number_of field) (with_field field.name value) e.space_after_key e.rows in
    entry-is e e.key new.0 new.1 is is.key is.key_len (λ empty. absurd (not_empty e.key (named_not_empty key e.key named) empty))
    (later_rows field.name (with_field field.name value) (set_rows field.name value n v) (number_of field) e.space_after_key e.rows is.space_after_key is.rows)
    (later_ends field.name (with_field field.name value) e.opening.delimiter e.last_comma (number_of field) e.space_after_key e.rows is.space_after_key is.key_ends
    (set_ends field.name value e.opening.delimiter e.last_comma e.space_after_key e.rows is.space_after_key))

one_dropped : (field : Which) (key : Text) (e : Entry) → ends_in_key (entry_without_one_field field e) ≡ false → is_named key e.key ≡ true → IsEntry name_limit e →
    IsEntry name_limit (entry_without_one_field field e)
one_dropped field key e ends named is =
    let new = with_later_rows field.name (number_of field) (without_field field.name) e.space_after_key e.rows in
    let are = later_rows field.name (without_field field.name) (drop_rows field.name) (number_of field) e.space_after_key e.rows is.space_after_key is.rows in
    entry-is e e.key new.0 new.1 is is.key is.key_len (λ empty. absurd (not_empty e.key (named_not_empty key e.key named) empty)) are (ends_of new.1 new.0 are.space ends)
  where
    ends_of : (rows : List Row) (space : Text) → IsSpace space → (let new : Entry = record e { space_after_key = space; rows = rows } in ends_in_key new ≡ false) →
        EndsKey e.opening.delimiter space rows e.last_comma
    ends_of [] space s ends = ends_without_rows e.opening.delimiter space e.last_comma s ends
    ends_of (row ∷ rows) space s ends = ends_at_row e.opening.delimiter space row rows e.last_comma s

one_dropped_tree : (field : Which) (key : Text) (tree : Tree) → is_entry key tree ≡ true → tree_ends_in_key (of_entry (entry_without_one_field field) tree) ≡ false → IsTree name_limit tree →
    IsTree name_limit (of_entry (entry_without_one_field field) tree)
one_dropped_tree field key (EntryTree e) named ends is = one_dropped field key e ends named is
one_dropped_tree field key (CommentTree h) named ends is = is
one_dropped_tree field key (DefinitionTree d) named ends is = is
one_dropped_tree field key (PreambleTree p) named ends is = is

-- the changed item
changed-at : (n : ℕ) (change : Tree → Tree) (items : List Item) (item : Item) → slice_get items n ≡ Some item → slice_get (with_tree_at n change items) n ≡ Some (record item { tree = change item.tree })
changed-at n change [] item at = absurd (none-some item at)
changed-at zero change (first ∷ items) item at = ap (option_map (λ (i : Item). record i { tree = change i.tree })) at
changed-at (suc n) change (first ∷ items) item at = changed-at n change items item at

-- ---- what is made reads

module _ (key_base : Record → Text) (file : Text) (db : Reading) (reads : Reads file db) where
  -- item n with another tree, if that is one of the grammar and no new comment
  tree-reads : (n : ℕ) (change : Tree → Tree) → ((tree : Tree) → is_comment (change tree) ≡ is_comment tree) →
      ((item : Item) → slice_get db.items n ≡ Some item → IsTree name_limit item.tree → IsTree name_limit (change item.tree)) →
      (let new : Reading = record db { items = with_tree_at n change db.items } in Reads (bytes_of new) new)
  tree-reads n change still becomes =
      made_reads (record db { items = with_tree_at n change db.items }) reads.front
      (with_tree-are n change db.items reads.items (λ item at is. item_as item (change item.tree) is (becomes item at is.tree) (still item.tree)))

  -- without item n, if the joined texts are clean
  out-reads : (n : ℕ) → ((HasCleanTexts (without_item n db.front db.items) → ⊥) → ⊥) → Reads (bytes_of (without_item n db.front db.items)) (without_item n db.front db.items)
  out-reads n clean = clean_reads (without_item n db.front db.items) (without-are n db.front db.items (trees_of db.items reads.items)) (unrefuted_texts (without_item n db.front db.items) clean)

  moved-reads : (n place : ℕ) → ((HasCleanTexts (without_item n db.front db.items) → ⊥) → ⊥) → Reads (bytes_of (move_item n place db)) (move_item n place db)
  moved-reads n place clean = by_item (slice_get db.items n) (λ item at. item_tree item at)
    where
      rest : Reads (bytes_of (without_item n db.front db.items)) (without_item n db.front db.items)
      rest = out-reads n clean

      item_tree : (item : Item) → slice_get db.items n ≡ Some item → IsTree name_limit item.tree
      item_tree item at = slice_get-All (λ (item : Item). IsTree name_limit item.tree) db.items n item at (trees_of db.items reads.items)

      put : Option Item → Reading
      put o = option_map_or (λ item. with_item place (in_line item.tree) (without_item n db.front db.items)) o db

      by_item : (o : Option Item) → ((item : Item) → o ≡ Some item → IsTree name_limit item.tree) → Reads (bytes_of (put o)) (put o)
      by_item None is = made_reads db reads.front reads.items
      by_item (Some item) is =
          made_reads (with_item place (in_line item.tree) (without_item n db.front db.items)) rest.front
          (insert-are (without_item n db.front db.items).items place (in_line item.tree) rest.items (in_line-is item.tree (is item refl)))

  module _ (key : Which) where
    -- what is told of the entry that is meant, by its number
    abbrev meant_by : Option ℕ → EntryChange → Reading
    meant_by o change = option_map_or (λ n. entry_changed key change n db) o db

    entry-reads : (n : ℕ) → item_meant key db.items ≡ Some n → (become : Entry → Entry) →
        ((e : Entry) → is_named key.name e.key ≡ true → IsEntry name_limit e → IsEntry name_limit (become e)) →
        Reads (bytes_of (with_entry_at n become db)) (with_entry_at n become db)
    entry-reads n found become becomes =
        tree-reads n (of_entry become) (comment-of_entry key.name become)
        (λ item at is. of_entry-is key.name become becomes item.tree (meant-is (λ item. is_entry key.name item.tree) (number_of key) db.items n found item at) is)

    entry_change-reads : (change : EntryChange) → IsAccepted key_base db (ChangeEntry key change) → (n : ℕ) → item_meant key db.items ≡ Some n →
        Reads (bytes_of (entry_changed key change n db)) (entry_changed key change n db)
    entry_change-reads (SetsField field value) accepted n found = entry-reads n found (entry_with_one_field field value)
        (λ e named is. one_set field value
        (and_parts (is_name field.name) true (given_names-are key_base db (ChangeEntry key (SetsField field value)) accepted)).0
        (All-head (IsValue name_limit) value [] (given_values-are key_base db (ChangeEntry key (SetsField field value)) accepted)) key.name e named is)
    entry_change-reads (DropsField field) accepted n found =
        tree-reads n (of_entry (entry_without_one_field field)) (comment-of_entry key.name (entry_without_one_field field))
        (λ item at is. one_dropped_tree field key.name item.tree (meant-is (λ item. is_entry key.name item.tree) (number_of key) db.items n found item at) (ends item at) is)
      where
        ends_at : Reading → Option ℕ → Bool
        ends_at new o = option_map_or (λ item. tree_ends_in_key item.tree) (option_and_then (slice_get new.items) o) false

        unmerged : ends_at (with_entry_at n (entry_without_one_field field) db) (Some n) ≡ false
        unmerged = sym (ap (λ o. ends_at (meant_by o (DropsField field)) o) found) ∙ false_from_ne_true (ends_at (change_entry key (DropsField field) db) (item_meant key db.items)) (accepted WouldMerge)

        ends : (item : Item) → slice_get db.items n ≡ Some item → tree_ends_in_key (of_entry (entry_without_one_field field) item.tree) ≡ false
        ends item at = sym (ap (λ o. option_map_or (λ (item : Item). tree_ends_in_key item.tree) o false) (changed-at n (of_entry (entry_without_one_field field)) db.items item at)) ∙ unmerged
    entry_change-reads (RenamesFields from to) accepted n found =
        tree-reads n (of_entry (entry_renamed from to)) (comment-of_entry key.name (entry_renamed from to)) (λ item at is. renamed_tree from to named item.tree is)
      where
        named : is_name to ≡ true
        named = (and_parts (is_name to) true (and_parts (is_name from) (is_name to && true) (given_names-are key_base db (ChangeEntry key (RenamesFields from to)) accepted)).1).0
    entry_change-reads (SetsType kind_name) accepted n found = entry-reads n found (entry_with_type kind_name)
        (λ e named is. typed_entry kind_name (and_parts (is_type kind_name) true (given_types-are key_base db (ChangeEntry key (SetsType kind_name)) accepted)).0 e is)
    entry_change-reads (RenamesKey to) accepted n found = with_keys-reads (key_for (entry_meant key (entries_of db)) to) (are_new (entry_meant key (entries_of db))) file db reads
      where
        are_new : (o : Option ℕ) (n : ℕ) (new : Text) → key_for o to n ≡ Some new → is_new_key new ≡ true
        are_new None n new e = absurd (none-some new e)
        are_new (Some m) n new e =
            subst (λ new. is_new_key new ≡ true) (cond_some (m == n) to new e).1 (and_parts (is_new_key to) true (given_keys-are key_base db (ChangeEntry key (RenamesKey to)) accepted)).0
    entry_change-reads Removes accepted n found = out-reads n (subst (λ o. (HasCleanTexts (meant_by o Removes) → ⊥) → ⊥) found (accepted WouldMerge))
    entry_change-reads (Moves place) accepted n found = moved-reads n place (subst (λ o. (HasCleanTexts (meant_by o Removes) → ⊥) → ⊥) found (accepted WouldMerge))

    pub change_entry-reads : (change : EntryChange) → IsAccepted key_base db (ChangeEntry key change) → Reads (bytes_of (change_entry key change db)) (change_entry key change db)
    change_entry-reads change accepted = by_number (item_meant key db.items) (entry_change-reads change accepted)
      where
        by_number : (o : Option ℕ) → ((n : ℕ) → o ≡ Some n → Reads (bytes_of (entry_changed key change n db)) (entry_changed key change n db)) →
            Reads (bytes_of (meant_by o change)) (meant_by o change)
        by_number None is = made_reads db reads.front reads.items
        by_number (Some n) is = is n refl

  module _ (name : Text) (k : ℕ) where
    abbrev defined_by : Option ℕ → DefinitionChange → Reading
    defined_by o change = option_map_or (λ n. definition_changed change n db) o db

    definition_change-reads : (change : DefinitionChange) → IsAccepted key_base db (ChangeDefinition name k change) → (n : ℕ) → definition_meant name k db.items ≡ Some n →
        Reads (bytes_of (definition_changed change n db)) (definition_changed change n db)
    definition_change-reads (SetsValue value) accepted n found =
        tree-reads n (definition_to value) (comment-definition_to value)
        (λ item at is. definition_to-is value (All-head (IsValue name_limit) value [] (given_values-are key_base db (ChangeDefinition name k (SetsValue value)) accepted)) item.tree is)
    definition_change-reads Undefines accepted n found = out-reads n (subst (λ o. (HasCleanTexts (defined_by o Undefines) → ⊥) → ⊥) found (accepted WouldMerge))

    pub change_definition-reads : (change : DefinitionChange) → IsAccepted key_base db (ChangeDefinition name k change) →
        Reads (bytes_of (change_definition name k change db)) (change_definition name k change db)
    change_definition-reads change accepted = by_number (definition_meant name k db.items) (definition_change-reads change accepted)
      where
        by_number : (o : Option ℕ) → ((n : ℕ) → o ≡ Some n → Reads (bytes_of (definition_changed change n db)) (definition_changed change n db)) →
            Reads (bytes_of (defined_by o change)) (defined_by o change)
        by_number None is = made_reads db reads.front reads.items
        by_number (Some n) is = is n refl
