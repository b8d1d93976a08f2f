-- DropField: the entry without its field is an entry, since its key still ends where it did.
use Rattle.edit_spec.proofs.Words.{◌≡◌, Bool, true, false, List, ◌∷◌, ◌++◌, Some, All, find, ⊎_elim, refl, sym, ◌∙◌, ap, subst, option_map_or, cases_Bool, cond-true, cond-false, false_from_ne_true, false≢true, All-nil, All-cons, All-head, All-tail, All-append, name_limit, Text, same, is_space, Row}
use Rattle.edit_spec.proofs.Words.{Entry, Tree, CommentTree, DefinitionTree, PreambleTree, EntryTree, IsSpace, IsRow, IsEntry, IsTree, Item, Reading, bytes_of, IsItem, Reads, Record, is_named, DropField, WouldMerge, is_entry, from_first, with_first_tree, of_entry, row_before, without_field}
use Rattle.edit_spec.proofs.Words.{entry_without_field, IsAccepted}
use Rattle.std.proofs.Common.{[]}
use Rattle.edit_spec.specs.Edits.{drop_field, ends_in_key, tree_ends_in_key}
use Rattle.edit_spec.proofs.WrittenRows.{EndsKey, ends_at_row, ends_without_rows, AreRows, are_rows, row_before_space, not_empty, entry-is}
use Rattle.edit_spec.proofs.EditedItems.{AreItems, made_reads, item_as, named_not_empty, comment-of_entry}

module _ (name : Text) where
  pub drop_rows : (before : Text) (rows : List Row) → IsSpace before → All (IsRow name_limit) rows → AreRows (without_field name before rows)
  drop_rows before [] s are = are_rows before [] s are
  drop_rows before (row ∷ rows) s are =
      let rest = without_field name row.assignment.space_after rows in
      let is = All-head (IsRow name_limit) row rows are in
      let after = All-tail (IsRow name_limit) row rows are in
      let later = drop_rows row.assignment.space_after rows is.assignment.space_after after in
      ⊎_elim
      (λ e. subst AreRows (sym (cond-true (same row.assignment.name name) (before ++ row.assignment.space_after, rows) (before, row_before rest.0 row ∷ rest.1) e))
      (are_rows (before ++ row.assignment.space_after) rows (All-append (λ b. is_space b ≡ true) before row.assignment.space_after s is.assignment.space_after) after))
      (λ e. subst AreRows (sym (cond-false (same row.assignment.name name) (before ++ row.assignment.space_after, rows) (before, row_before rest.0 row ∷ rest.1) e))
      (are_rows before (row_before rest.0 row ∷ rest.1) s (All-cons (IsRow name_limit) (row_before rest.0 row) rest.1 (row_before_space rest.0 row later.space is) later.rows)))
      (cases_Bool (same row.assignment.name name))

  abbrev change : Entry → Entry
  change e = entry_without_field name e

  drop_ends : (e : Entry) (rows : List Row) (space : Text) → IsSpace space →
      (let new : Entry = record e { space_after_key = space; rows = rows } in ends_in_key new ≡ false) → EndsKey e.opening.delimiter space rows e.last_comma
  drop_ends e [] space s ends = ends_without_rows e.opening.delimiter space e.last_comma s ends
  drop_ends e (row ∷ rows) space s ends = ends_at_row e.opening.delimiter space row rows e.last_comma s

  drop_entry : (key : Text) (e : Entry) → ends_in_key (change e) ≡ false → is_named key e.key ≡ true → IsEntry name_limit e → IsEntry name_limit (change e)
  drop_entry key e ends named is =
      let new = without_field name e.space_after_key e.rows in
      let are = drop_rows e.space_after_key e.rows is.space_after_key is.rows in
      entry-is e e.key new.0 new.1 is is.key is.key_len (λ empty. absurd (not_empty e.key (named_not_empty key e.key named) empty))
      are (drop_ends e new.1 new.0 are.space ends)

  module _ (key : Text) where
    -- whether the found entry of such items ends in its key
    abbrev found_ends : List Item → Bool
    found_ends items = option_map_or (λ item. tree_ends_in_key item.tree) (find (λ item. is_entry key item.tree) items) false

    drop_tree : (tree : Tree) → is_entry key tree ≡ true → tree_ends_in_key (of_entry change tree) ≡ false → IsTree name_limit tree → IsTree name_limit (of_entry change tree)
    drop_tree (EntryTree e) named ends is = drop_entry key e ends named is
    drop_tree (CommentTree h) named ends is = absurd (false≢true named)
    drop_tree (DefinitionTree d) named ends is = absurd (false≢true named)
    drop_tree (PreambleTree p) named ends is = absurd (false≢true named)

    entry_still : (tree : Tree) → is_entry key (of_entry change tree) ≡ is_entry key tree
    entry_still (EntryTree e) = refl
    entry_still (CommentTree h) = refl
    entry_still (DefinitionTree d) = refl
    entry_still (PreambleTree p) = refl

    drop_items : (items : List Item) → found_ends (from_first (is_entry key) (with_first_tree (of_entry change)) items) ≡ false → AreItems items →
        AreItems (from_first (is_entry key) (with_first_tree (of_entry change)) items)
    drop_items [] ends are = All-nil (IsItem name_limit)
    drop_items (item ∷ items) ends are =
        let new : Item = record item { tree = of_entry change item.tree } in
        let rest = from_first (is_entry key) (with_first_tree (of_entry change)) items in
        let is = All-head (IsItem name_limit) item items are in
        let after = All-tail (IsItem name_limit) item items are in
        ⊎_elim
        (λ e. subst AreItems (sym (cond-true (is_entry key item.tree) (new ∷ items) (item ∷ rest) e))
        (All-cons (IsItem name_limit) new items
        (item_as item (of_entry change item.tree) is
        (drop_tree item.tree e
        (sym (ap (λ o. option_map_or (λ item. tree_ends_in_key item.tree) o false) (cond-true (is_entry key new.tree) (Some new) (find (λ item. is_entry key item.tree) items) (entry_still item.tree ∙ e)))
        ∙ sym (ap found_ends (cond-true (is_entry key item.tree) (new ∷ items) (item ∷ rest) e)) ∙ ends) is.tree) (comment-of_entry key change item.tree)) after))
        (λ e. subst AreItems (sym (cond-false (is_entry key item.tree) (new ∷ items) (item ∷ rest) e))
        (All-cons (IsItem name_limit) item rest is
        (drop_items items
        (sym (ap (λ o. option_map_or (λ item. tree_ends_in_key item.tree) o false) (cond-false (is_entry key item.tree) (Some item) (find (λ item. is_entry key item.tree) rest) e))
        ∙ sym (ap found_ends (cond-false (is_entry key item.tree) (new ∷ items) (item ∷ rest) e)) ∙ ends) after)))
        (cases_Bool (is_entry key item.tree))

pub drop_field-reads : (key_base : Record → Text) (file : Text) (db : Reading) (key name : Text) → Reads file db → IsAccepted key_base db (DropField key name) →
    Reads (bytes_of (drop_field key name db)) (drop_field key name db)
drop_field-reads key_base file db key name reads accepted =
    made_reads (drop_field key name db) reads.front
    (drop_items name key db.items (false_from_ne_true (found_ends name key (drop_field key name db).items) (accepted WouldMerge)) reads.items)
