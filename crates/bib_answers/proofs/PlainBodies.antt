-- Entries that are ASCII: so are their type names, their keys and their fields.
use Rattle.bib_answers.proofs.Words.{◌≡◌, ℕ, true, List, [], ◌∷◌, ◌++◌, sym, subst, false≢true, flat_map, Text, Tree, CommentTree, DefinitionTree, PreambleTree, EntryTree, View, view_of, is_entry_tree, Reading}
use Rattle.std.proofs.Common.{count_by, arith}
use Rattle.bib_spec.specs.Bytes.{at_sign, comma, equals_sign}
use Rattle.bib_spec.specs.Tree.{Row, Entry, tree_bytes, entry_bytes, after_key_bytes, opening_bytes, head_bytes, open_byte, close_byte, row_bytes, assignment_bytes, value_bytes, last_comma_bytes}
use Rattle.bib_scan.specs.View.{fields_after}
use Rattle.bib_persons.proofs.Counts.{count-append}
use Rattle.bib_answers.specs.Plain.{is_other, ArePlain, IsPlainHead}
use Rattle.bib_answers.proofs.ItemFields.{IsViewed}

front_plain : (s t : Text) → count_by is_other (s ++ t) ≡ 0 → count_by is_other s ≡ 0
front_plain s t none = let e = count-append is_other s t in omega (arith, e, none)

rest_plain : (s t : Text) → count_by is_other (s ++ t) ≡ 0 → count_by is_other t ≡ 0
rest_plain s t none = let e = count-append is_other s t in omega (arith, e, none)

rows_plain : (before : Text) (rows : List Row) → count_by is_other (flat_map row_bytes rows) ≡ 0 → ArePlain (fields_after before rows)
rows_plain before [] none = tt
rows_plain before (r ∷ rows) none =
    let a = r.assignment in
    let row = front_plain (row_bytes r) (flat_map row_bytes rows) none in
    let assigned = rest_plain (comma ∷ r.space_before_name) (assignment_bytes a) row in
    let to_value = front_plain (a.name ++ a.space_before_equals ++ equals_sign ∷ a.space_before_value ++ value_bytes a.value) a.space_after assigned in
    let to_equals = front_plain (a.name ++ a.space_before_equals ++ equals_sign ∷ a.space_before_value) (value_bytes a.value) to_value in
    let named = front_plain (a.name ++ a.space_before_equals) (equals_sign ∷ a.space_before_value) to_equals in (
      record {
        name = front_plain a.name a.space_before_equals named;
        value = rest_plain (a.name ++ a.space_before_equals ++ equals_sign ∷ a.space_before_value) (value_bytes a.value) to_value;
      },
      rows_plain (before ++ row_bytes r) rows (rest_plain (row_bytes r) (flat_map row_bytes rows) none),
    )

-- the type name, the key and the rows of an entry that is ASCII are so
record IsPlainEntry (e : Entry) : Type 0 where
  type_name : count_by is_other e.opening.head.type_name ≡ 0
  key : count_by is_other e.key ≡ 0
  rows : count_by is_other (flat_map row_bytes e.rows) ≡ 0

entry_plain : (e : Entry) → count_by is_other (entry_bytes e) ≡ 0 → IsPlainEntry e
entry_plain e none =
    let o = e.opening in
    let to_key = front_plain (opening_bytes o ++ e.key) (after_key_bytes e) none in
    let opening = front_plain (opening_bytes o) e.key to_key in
    let to_delimiter = front_plain (head_bytes o.head ++ o.space_before_delimiter) (open_byte o.delimiter ∷ o.space_after) opening in
    let head = front_plain (head_bytes o.head) o.space_before_delimiter to_delimiter in
    let after = rest_plain (opening_bytes o ++ e.key) (after_key_bytes e) none in
    let to_comma = front_plain (e.space_after_key ++ flat_map row_bytes e.rows ++ last_comma_bytes e.last_comma) (close_byte o.delimiter ∷ []) after in
    let to_rows = front_plain (e.space_after_key ++ flat_map row_bytes e.rows) (last_comma_bytes e.last_comma) to_comma in
    record {
      type_name = rest_plain (at_sign ∷ o.head.space_before_type) o.head.type_name head;
      key = rest_plain (opening_bytes o) e.key to_key;
      rows = rest_plain e.space_after_key (flat_map row_bytes e.rows) to_rows;
    }

tree_fields_plain : (tree : Tree) (trail : Text) → is_entry_tree tree ≡ true → count_by is_other (tree_bytes tree) ≡ 0 → ArePlain (view_of (record { tree = tree; trail = trail })).fields
tree_fields_plain (CommentTree h) trail is none = absurd (false≢true is)
tree_fields_plain (DefinitionTree d) trail is none = absurd (false≢true is)
tree_fields_plain (PreambleTree p) trail is none = absurd (false≢true is)
tree_fields_plain (EntryTree e) trail is none = rows_plain _ e.rows (entry_plain e none).rows

tree_head_plain : (tree : Tree) (trail : Text) → is_entry_tree tree ≡ true → count_by is_other (tree_bytes tree) ≡ 0 → IsPlainHead (view_of (record { tree = tree; trail = trail }))
tree_head_plain (CommentTree h) trail is none = absurd (false≢true is)
tree_head_plain (DefinitionTree d) trail is none = absurd (false≢true is)
tree_head_plain (PreambleTree p) trail is none = absurd (false≢true is)
tree_head_plain (EntryTree e) trail is none = let plain = entry_plain e none in record { type_name = plain.type_name; key = plain.key }

module _ (db : Reading) (n : ℕ) (view : View) (is : IsViewed db n view) (entry : is_entry_tree is.item.tree ≡ true) (none : count_by is_other view.body ≡ 0) where
  body_plain : count_by is_other (tree_bytes is.item.tree) ≡ 0
  body_plain = subst (λ (v : View). count_by is_other v.body ≡ 0) is.view_is none

  -- the fields of an entry that is ASCII are so
  pub fields_plain : ArePlain view.fields
  fields_plain = subst (λ (v : View). ArePlain v.fields) (sym is.view_is) (tree_fields_plain is.item.tree is.item.trail entry body_plain)

  -- and so are its type name and its key
  pub head_plain : IsPlainHead view
  head_plain = subst IsPlainHead (sym is.view_is) (tree_head_plain is.item.tree is.item.trail entry body_plain)
