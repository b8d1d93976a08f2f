-- SetField: the entry with its field set is an entry.
use Rattle.edit_spec.proofs.Words.{◌≡◌, true, List, ◌∷◌, Option, All, ⊎_elim, sym, subst, cases_Bool, cond-true, cond-false, and_parts, All-nil, All-cons, All-head, All-tail, name_limit, Text, same, is_name, Value, Row, Delimiter, Entry, IsSpace, IsValue, IsRow, IsEntry, Reading, bytes_of, IsItem}
use Rattle.edit_spec.proofs.Words.{Reads, Record, is_named, SetField, is_entry, with_first_tree, of_entry, new_row, row_to, row_before, with_field, entry_with_field, IsAccepted}
use Rattle.std.proofs.Common.{[]}
use Rattle.edit_spec.specs.Edits.{set_field}
use Rattle.edit_spec.proofs.Unrefuted.{given_names-are, given_values-are}
use Rattle.edit_spec.proofs.WrittenRows.{no_space, EndsKey, ends_at_row, AreRows, are_rows, row_with_value, row_before_space, new_row-is, not_empty, entry-is}
use Rattle.edit_spec.proofs.EditedItems.{made_reads, item_as, from_first-are, named_not_empty, comment-of_entry, of_entry-is}

module _ (name : Text) (value : Value) where
  pub set_rows : is_name name ≡ true → IsValue name_limit value → (before : Text) (rows : List Row) → IsSpace before → All (IsRow name_limit) rows → AreRows (with_field name value before rows)
  set_rows n v before [] s are = are_rows [] (new_row name value before ∷ []) no_space
      (All-cons (IsRow name_limit) (new_row name value before) [] (new_row-is name value before n v s) (All-nil (IsRow name_limit)))
  set_rows n v before (row ∷ rows) s are =
      let rest = with_field name value row.assignment.space_after rows in
      let is = All-head (IsRow name_limit) row rows are in
      let after = All-tail (IsRow name_limit) row rows are in
      let later = set_rows n v row.assignment.space_after rows is.assignment.space_after after in
      ⊎_elim
      (λ e. subst AreRows (sym (cond-true (same row.assignment.name name) (before, row_to value row ∷ rows) (before, row_before rest.0 row ∷ rest.1) e))
      (are_rows before (row_to value row ∷ rows) s (All-cons (IsRow name_limit) (row_to value row) rows (row_with_value value row v is) after)))
      (λ e. subst AreRows (sym (cond-false (same row.assignment.name name) (before, row_to value row ∷ rows) (before, row_before rest.0 row ∷ rest.1) e))
      (are_rows before (row_before rest.0 row ∷ rest.1) s (All-cons (IsRow name_limit) (row_before rest.0 row) rest.1 (row_before_space rest.0 row later.space is) later.rows)))
      (cases_Bool (same row.assignment.name name))

  pub set_ends : (d : Delimiter) (last : Option Text) (before : Text) (rows : List Row) → IsSpace before →
      EndsKey d (with_field name value before rows).0 (with_field name value before rows).1 last
  set_ends d last before [] s = ends_at_row d [] (new_row name value before) [] last no_space
  set_ends d last before (row ∷ rows) s =
      let rest = with_field name value row.assignment.space_after rows in
      ⊎_elim
      (λ e. subst (λ (r : Text × List Row). EndsKey d r.0 r.1 last) (sym (cond-true (same row.assignment.name name) (before, row_to value row ∷ rows) (before, row_before rest.0 row ∷ rest.1) e))
      (ends_at_row d before (row_to value row) rows last s))
      (λ e. subst (λ (r : Text × List Row). EndsKey d r.0 r.1 last) (sym (cond-false (same row.assignment.name name) (before, row_to value row ∷ rows) (before, row_before rest.0 row ∷ rest.1) e))
      (ends_at_row d before (row_before rest.0 row) rest.1 last s))
      (cases_Bool (same row.assignment.name name))

  set_entry : is_name name ≡ true → IsValue name_limit value → (key : Text) (e : Entry) → is_named key e.key ≡ true → IsEntry name_limit e → IsEntry name_limit (entry_with_field name value e)
  set_entry n v key e named is =
      let new = with_field name value e.space_after_key e.rows in
      entry-is e e.key new.0 new.1 is is.key is.key_len (λ empty. absurd (not_empty e.key (named_not_empty key e.key named) empty))
      (set_rows n v e.space_after_key e.rows is.space_after_key is.rows) (set_ends e.opening.delimiter e.last_comma e.space_after_key e.rows is.space_after_key)

pub set_field-reads : (key_base : Record → Text) (file : Text) (db : Reading) (key name : Text) (value : Value) → Reads file db → IsAccepted key_base db (SetField key name value) →
    Reads (bytes_of (set_field key name value db)) (set_field key name value db)
set_field-reads key_base file db key name value reads accepted =
    made_reads (set_field key name value db) reads.front
    (from_first-are (is_entry key) (IsItem name_limit) (with_first_tree (of_entry change))
    (λ item items named are. All-cons (IsItem name_limit) (record item { tree = of_entry change item.tree }) items
    (item_as item (of_entry change item.tree) (All-head (IsItem name_limit) item items are)
    (of_entry-is key change becomes item.tree named (All-head (IsItem name_limit) item items are).tree) (comment-of_entry key change item.tree))
    (All-tail (IsItem name_limit) item items are)) db.items reads.items)
  where
    change : Entry → Entry
    change e = entry_with_field name value e

    becomes : (e : Entry) → is_named key e.key ≡ true → IsEntry name_limit e → IsEntry name_limit (change e)
    becomes e named is = set_entry name value
        (and_parts (is_name name) true (given_names-are key_base db (SetField key name value) accepted)).0
        (All-head (IsValue name_limit) value [] (given_values-are key_base db (SetField key name value) accepted)) key e named is
