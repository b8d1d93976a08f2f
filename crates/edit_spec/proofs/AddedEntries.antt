-- AddEntry and AddMany: a new entry is one of the grammar.
use Rattle.edit_spec.proofs.Words.{◌≡◌, ℕ, true, List, ◌∷◌, ◌++◌, None, map, refl, sym, ◌∙◌, All, flat_map, list_all, and_parts, list_all-append, All-nil, All-cons, All-head, All-tail, All-append, name_limit, Text, is_name, is_new_key, is_type_name, Value, Row, Brace, EntryTree, is_type, IsValue}
use Rattle.edit_spec.proofs.Words.{IsRow, IsEntry, Reading, bytes_of, IsItem, Reads, Record, NewEntry, AddEntry, AddMany, new_row, entry_of, item_of, add_entry, add_many, IsAccepted}
use Rattle.std.proofs.Common.{[]}
use Rattle.bib_spec.specs.Tree.{is_no_keyword}
use Rattle.edit_spec.specs.Edits.{line_end, new_rows, field_names, field_values}
use Rattle.edit_spec.proofs.Unrefuted.{given_keys-are, given_names-are, given_types-are, given_values-are}
use Rattle.edit_spec.proofs.WrittenRows.{no_space, line_space, EndsKey, ends_at_row, ends_without_rows, new_row-is, new_key-goes_on, new_key-length}
use Rattle.edit_spec.proofs.EditedItems.{AreItems, made_reads, in_line-is, insert-are}

new_rows-are : (fields : List (Text × Value)) → list_all is_name (map (λ field. field.0) fields) ≡ true → All (IsValue name_limit) (map (λ field. field.1) fields) → All (IsRow name_limit) (new_rows fields)
new_rows-are [] names values = All-nil (IsRow name_limit)
new_rows-are (field ∷ []) names values =
    All-cons (IsRow name_limit) (new_row field.0 field.1 line_end) []
    (new_row-is field.0 field.1 line_end (and_parts (is_name field.0) true names).0 (All-head (IsValue name_limit) field.1 [] values) line_space) (All-nil (IsRow name_limit))
new_rows-are (field ∷ next ∷ fields) names values =
    let both = and_parts (is_name field.0) (list_all is_name (map (λ field. field.0) (next ∷ fields))) names in
    All-cons (IsRow name_limit) (new_row field.0 field.1 []) (new_rows (next ∷ fields))
    (new_row-is field.0 field.1 [] both.0 (All-head (IsValue name_limit) field.1 (map (λ field. field.1) (next ∷ fields)) values) no_space)
    (new_rows-are (next ∷ fields) both.1 (All-tail (IsValue name_limit) field.1 (map (λ field. field.1) (next ∷ fields)) values))

new_ends : (rows : List Row) → EndsKey Brace [] rows None
new_ends [] = ends_without_rows Brace [] None no_space refl
new_ends (row ∷ rows) = ends_at_row Brace [] row rows None no_space

new_entry : (new : NewEntry) → is_new_key new.key ≡ true → is_type new.kind_name ≡ true → list_all is_name (field_names new) ≡ true → All (IsValue name_limit) (field_values new) →
    IsEntry name_limit (entry_of new)
new_entry new key kind names values =
    let both = and_parts (is_type_name new.kind_name) (is_no_keyword new.kind_name) kind in
    record {
      opening = record { head = record { space_before_type = no_space; type_name = both.0 }; space_before_delimiter = no_space; space_after = no_space };
      type_name = both.1;
      key = new_key-goes_on new.key key Brace;
      key_len = new_key-length new.key key;
      key_ends = new_ends (new_rows new.fields);
      space_after_key = no_space;
      empty_key = λ e. refl;
      rows = new_rows-are new.fields names values;
      last_comma = tt;
    }

-- what holds of all of two lists that are joined holds of all of each
pub all_split : {X : Type 0} (P : X → Type 0) (xs ys : List X) → All P (xs ++ ys) → All P xs × All P ys
all_split P [] ys h = (All-nil P, h)
all_split P (x ∷ xs) ys h =
    let rest = all_split P xs ys (All-tail P x (xs ++ ys) h) in
    (All-cons P x xs (All-head P x (xs ++ ys) h) rest.0, rest.1)

new_items : (news : List NewEntry) → list_all is_new_key (map (λ new. new.key) news) ≡ true → list_all is_type (map (λ new. new.kind_name) news) ≡ true →
    list_all is_name (flat_map field_names news) ≡ true → All (IsValue name_limit) (flat_map field_values news) → AreItems (map item_of news)
new_items [] keys kinds names values = All-nil (IsItem name_limit)
new_items (new ∷ news) keys kinds names values =
    let key = and_parts (is_new_key new.key) (list_all is_new_key (map (λ new. new.key) news)) keys in
    let kind = and_parts (is_type new.kind_name) (list_all is_type (map (λ new. new.kind_name) news)) kinds in
    let name = and_parts (list_all is_name (field_names new)) (list_all is_name (flat_map field_names news)) (sym (list_all-append is_name (field_names new) (flat_map field_names news)) ∙ names) in
    let value = all_split (IsValue name_limit) (field_values new) (flat_map field_values news) values in
    All-cons (IsItem name_limit) (item_of new) (map item_of news) (in_line-is (EntryTree (entry_of new)) (new_entry new key.0 kind.0 name.0 value.0)) (new_items news key.1 kind.1 name.1 value.1)

pub add_entry-reads : (key_base : Record → Text) (file : Text) (db : Reading) (place : ℕ) (new : NewEntry) → Reads file db → IsAccepted key_base db (AddEntry place new) →
    Reads (bytes_of (add_entry place new db)) (add_entry place new db)
add_entry-reads key_base file db place new reads accepted =
    made_reads (add_entry place new db) reads.front
    (insert-are db.items place (item_of new) reads.items (in_line-is (EntryTree (entry_of new)) (new_entry new
    (and_parts (is_new_key new.key) true (given_keys-are key_base db (AddEntry place new) accepted)).0
    (and_parts (is_type new.kind_name) true (given_types-are key_base db (AddEntry place new) accepted)).0
    (given_names-are key_base db (AddEntry place new) accepted)
    (given_values-are key_base db (AddEntry place new) accepted))))

pub add_many-reads : (key_base : Record → Text) (file : Text) (db : Reading) (news : List NewEntry) → Reads file db → IsAccepted key_base db (AddMany news) →
    Reads (bytes_of (add_many news db)) (add_many news db)
add_many-reads key_base file db news reads accepted =
    made_reads (add_many news db) reads.front
    (All-append (IsItem name_limit) db.items (map item_of news) reads.items (new_items news
    (given_keys-are key_base db (AddMany news) accepted)
    (given_types-are key_base db (AddMany news) accepted)
    (given_names-are key_base db (AddMany news) accepted)
    (given_values-are key_base db (AddMany news) accepted)))
