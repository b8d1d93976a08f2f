-- RenameKey and RegenerateKeys: an entry with a new key, and with a new key as its crossref, is an entry of the grammar.
use Rattle.edit_spec.proofs.Words.{◌≡◌, ◌==◌, ℕ, true, List, ◌∷◌, Option, Some, None, unwrap_or, option_and_then, All, ⊎_elim, refl, sym, subst, cases_Bool, cond-true, cond-false, and_parts, none-some, cond_some, All-nil, All-cons, All-head, All-tail, name_limit, Text, same, is_new_key, Value, Row}
use Rattle.edit_spec.proofs.Words.{Delimiter, Entry, Tree, CommentTree, DefinitionTree, PreambleTree, EntryTree, is_comment, IsSpace, IsValue, IsRow, IsEntry, IsTree, Item, Reading, bytes_of, IsItem, Reads, EntryTexts, Record, entries_of, entry_named, target, crossref, RenameKey, row_to, in_braces}
use Rattle.edit_spec.proofs.Words.{with_value, with_crossref, next_number, tree_with_keys, items_with_keys, with_keys, key_for, IsAccepted}
use Rattle.std.proofs.Common.{[]}
use Rattle.edit_spec.specs.Edits.{rename_key}
use Rattle.edit_spec.proofs.RenameKey.{new_key_parts}
use Rattle.edit_spec.proofs.Unrefuted.{given_keys-are}
use Rattle.edit_spec.proofs.WrittenRows.{EndsKey, ends_at_row, are_rows, row_with_value, not_empty, entry-is, new_key-goes_on, new_key-length, new_key-in_braces}
use Rattle.edit_spec.proofs.EditedItems.{AreItems, made_reads, item_as}

-- each key that is there is one that an edit may write
abbrev AreNew : Option Text → Type 0
AreNew o = (key : Text) → o ≡ Some key → is_new_key key ≡ true

module _ (name : Text) (value : Value) where
  valued_rows : IsValue name_limit value → (rows : List Row) → All (IsRow name_limit) rows → All (IsRow name_limit) (with_value name value rows)
  valued_rows v [] are = All-nil (IsRow name_limit)
  valued_rows v (row ∷ rows) are =
      let is = All-head (IsRow name_limit) row rows are in
      let after = All-tail (IsRow name_limit) row rows are in
      ⊎_elim
      (λ e. subst (All (IsRow name_limit)) (sym (cond-true (same row.assignment.name name) (row_to value row ∷ rows) (row ∷ with_value name value rows) e))
      (All-cons (IsRow name_limit) (row_to value row) rows (row_with_value value row v is) after))
      (λ e. subst (All (IsRow name_limit)) (sym (cond-false (same row.assignment.name name) (row_to value row ∷ rows) (row ∷ with_value name value rows) e))
      (All-cons (IsRow name_limit) row (with_value name value rows) is (valued_rows v rows after)))
      (cases_Bool (same row.assignment.name name))

  valued_ends : (d : Delimiter) (space : Text) (rows : List Row) (last : Option Text) → IsSpace space → EndsKey d space rows last → EndsKey d space (with_value name value rows) last
  valued_ends d space [] last s ends = ends
  valued_ends d space (row ∷ rows) last s ends = ⊎_elim
      (λ e. subst (λ (rows : List Row). EndsKey d space rows last) (sym (cond-true (same row.assignment.name name) (row_to value row ∷ rows) (row ∷ with_value name value rows) e))
      (ends_at_row d space (row_to value row) rows last s))
      (λ e. subst (λ (rows : List Row). EndsKey d space rows last) (sym (cond-false (same row.assignment.name name) (row_to value row ∷ rows) (row ∷ with_value name value rows) e))
      (ends_at_row d space row (with_value name value rows) last s))
      (cases_Bool (same row.assignment.name name))

crossref_rows : (o : Option Text) → AreNew o → (rows : List Row) → All (IsRow name_limit) rows → All (IsRow name_limit) (with_crossref o rows)
crossref_rows None new rows are = are
crossref_rows (Some key) new rows are = valued_rows crossref (in_braces key) (new_key-in_braces key (new key refl)) rows are

crossref_ends : (o : Option Text) (d : Delimiter) (space : Text) (rows : List Row) (last : Option Text) → IsSpace space → EndsKey d space rows last → EndsKey d space (with_crossref o rows) last
crossref_ends None d space rows last s ends = ends
crossref_ends (Some key) d space rows last s ends = valued_ends crossref (in_braces key) d space rows last s ends

rekeyed_entry : (o named : Option Text) → AreNew o → AreNew named → (e : Entry) → IsEntry name_limit e →
    IsEntry name_limit (record e { key = unwrap_or o e.key; rows = with_crossref named e.rows })
rekeyed_entry None named new_key new_name e is =
    entry-is e e.key e.space_after_key (with_crossref named e.rows) is is.key is.key_len is.empty_key
    (are_rows e.space_after_key (with_crossref named e.rows) is.space_after_key (crossref_rows named new_name e.rows is.rows))
    (crossref_ends named e.opening.delimiter e.space_after_key e.rows e.last_comma is.space_after_key is.key_ends)
rekeyed_entry (Some key) named new_key new_name e is =
    let new = new_key key refl in
    entry-is e key e.space_after_key (with_crossref named e.rows) is (new_key-goes_on key new e.opening.delimiter) (new_key-length key new)
    (λ empty. absurd (not_empty key (new_key_parts key new).0 empty))
    (are_rows e.space_after_key (with_crossref named e.rows) is.space_after_key (crossref_rows named new_name e.rows is.rows))
    (crossref_ends named e.opening.delimiter e.space_after_key e.rows e.last_comma is.space_after_key is.key_ends)

module _ (new : ℕ → Option Text) (are_new : (n : ℕ) → AreNew (new n)) (entries : List EntryTexts) where
  new_of : (t : Option ℕ) → AreNew (option_and_then new t)
  new_of None key e = absurd (none-some key e)
  new_of (Some m) key e = are_new m key e

  rekeyed_tree : (n : ℕ) (tree : Tree) → IsTree name_limit tree → IsTree name_limit (tree_with_keys new entries n tree)
  rekeyed_tree n (EntryTree e) is = rekeyed_entry (new n) (option_and_then new (target entries n)) (are_new n) (new_of (target entries n)) e is
  rekeyed_tree n (CommentTree h) is = is
  rekeyed_tree n (DefinitionTree d) is = is
  rekeyed_tree n (PreambleTree p) is = is

  comment_still : (n : ℕ) (tree : Tree) → is_comment (tree_with_keys new entries n tree) ≡ is_comment tree
  comment_still n (EntryTree e) = refl
  comment_still n (CommentTree h) = refl
  comment_still n (DefinitionTree d) = refl
  comment_still n (PreambleTree p) = refl

  rekeyed_items : (n : ℕ) (items : List Item) → AreItems items → AreItems (items_with_keys new entries n items)
  rekeyed_items n [] are = All-nil (IsItem name_limit)
  rekeyed_items n (item ∷ items) are =
      let is = All-head (IsItem name_limit) item items are in
      All-cons (IsItem name_limit) (record item { tree = tree_with_keys new entries n item.tree }) (items_with_keys new entries (next_number n item.tree) items)
      (item_as item (tree_with_keys new entries n item.tree) is (rekeyed_tree n item.tree is.tree) (comment_still n item.tree))
      (rekeyed_items (next_number n item.tree) items (All-tail (IsItem name_limit) item items are))

pub with_keys-reads : (new : ℕ → Option Text) → ((n : ℕ) (key : Text) → new n ≡ Some key → is_new_key key ≡ true) → (file : Text) (db : Reading) → Reads file db →
    Reads (bytes_of (with_keys new db)) (with_keys new db)
with_keys-reads new are_new file db reads = made_reads (with_keys new db) reads.front (rekeyed_items new are_new (entries_of db) 0 db.items reads.items)

pub rename_key-reads : (key_base : Record → Text) (file : Text) (db : Reading) (from to : Text) → Reads file db → IsAccepted key_base db (RenameKey from to) →
    Reads (bytes_of (rename_key from to db)) (rename_key from to db)
rename_key-reads key_base file db from to reads accepted = with_keys-reads (key_for (entry_named (entries_of db) from) to) (are_new (entry_named (entries_of db) from)) file db reads
  where
    are_new : (o : Option ℕ) (n : ℕ) (key : Text) → key_for o to n ≡ Some key → is_new_key key ≡ true
    are_new None n key e = absurd (none-some key e)
    are_new (Some m) n key e =
        subst (λ key. is_new_key key ≡ true) (cond_some (m == n) to key e).1 (and_parts (is_new_key to) true (given_keys-are key_base db (RenameKey from to) accepted)).0
