-- The first crossref of an entry: if its word is not in the entry's bytes there is none; otherwise it is found row by
-- row.
use Rattle.bib_store.proofs.Words.{◌≡◌, true, false, List, [], ◌∷◌, ◌++◌, length, map, Option, Some, None, ⊎_elim, refl, sym, ◌∙◌, ap, subst, append_assoc, flat_map, option_or, cases_Bool, cond-true, cond-false, none-some, same_Some, All-head, All-tail, comma, equals_sign, name_limit, Text, same}
use Rattle.bib_store.proofs.Words.{Tree, Row, Entry, EntryTree, IsRow, IsTree, value_bytes, row_bytes, opening_bytes, last_comma_bytes, close_byte, tree_bytes, Macros, raw_text, field_text, crossref, crossref_text, entry_in, View, field_after, fields_after, fields_of, view_of, OfValue}
use Rattle.bib_store.proofs.Words.{is_entry_tree, crossref_in, OfRows, LacksWord}
use Rattle.std.proofs.Common.{All}
use Rattle.std.specs.Prelude.{find}
use Rattle.bib_spec.specs.Reading.{Item}
use Rattle.bib_scan.specs.View.{Field}
use Rattle.bib_scan.specs.Note.{is_crossref, crossref_field}
use Rattle.bib_store.proofs.EntryItems.{entry_tree}
use Rattle.bib_store.proofs.RowTexts.{cons_parts, crossref_more, nil_cons}

-- ---- one row

pub row_is_other : (m : Macros) (row : Row) (rows : List Row) → same row.assignment.name crossref ≡ false → crossref_in m (row ∷ rows) ≡ crossref_in m rows
row_is_other m row rows e =
    crossref_more m row rows None
    ∙ ap (λ o. option_or o (crossref_in m rows)) (cond-false (same row.assignment.name crossref) (Some (field_text (raw_text m row.assignment.value))) None e)

pub row_is_first : (m : Macros) (row : Row) (rows : List Row) → same row.assignment.name crossref ≡ true → crossref_in m (row ∷ rows) ≡ Some (field_text (raw_text m row.assignment.value))
row_is_first m row rows e =
    crossref_more m row rows None
    ∙ ap (λ o. option_or o (crossref_in m rows)) (cond-true (same row.assignment.name crossref) (Some (field_text (raw_text m row.assignment.value))) None e)

-- ---- if its word is not there

-- a row's name among the bytes around it
row_shape : (front space name before equals value after rows rest : Text) → front ++ ((space ++ (name ++ before ++ equals ++ value ++ after) ++ rows) ++ rest)
    ≡ (front ++ space) ++ (name ++ (before ++ (equals ++ (value ++ (after ++ (rows ++ rest))))))
row_shape front space name before equals value after rows rest = simp append_assoc

next_shape : (front row rows rest : Text) → front ++ ((row ++ rows) ++ rest) ≡ (front ++ row) ++ (rows ++ rest)
next_shape front row rows rest = simp append_assoc

entry_shape : (opening key space rows last close : Text) → opening ++ key ++ (space ++ rows ++ last ++ close) ≡ (opening ++ (key ++ space)) ++ (rows ++ (last ++ close))
entry_shape opening key space rows last close = simp append_assoc

rows_lack : (m : Macros) (text front rest : Text) (rows : List Row) → text ≡ front ++ (flat_map row_bytes rows ++ rest) → LacksWord text crossref → crossref_in m rows ≡ None
rows_lack m text front rest [] is lacks = refl
rows_lack m text front rest (row ∷ rows) is lacks =
    let a = row.assignment in
    let others = flat_map row_bytes rows in
    let sp = comma ∷ row.space_before_name in
    let eq = equals_sign ∷ a.space_before_value in
    row_is_other m row rows (lacks (front ++ sp) a.name _ (is ∙ row_shape front sp a.name a.space_before_equals eq (value_bytes a.value) a.space_after others rest))
    ∙ rows_lack m text (front ++ row_bytes row) rest rows (is ∙ next_shape front (row_bytes row) others rest) lacks

pub entry_lacks : (m : Macros) (v : View) → LacksWord v.body crossref → (i : Item) → IsTree name_limit i.tree → is_entry_tree i.tree ≡ true → v ≡ view_of i
    → map crossref_text (entry_in m i.tree) ≡ None ∷ []
entry_lacks m v lacks i is entry seen = there i.tree (entry_tree i.tree entry) (ap (λ (w : View). w.body) seen)
  where
    there : (t : Tree) → (e : Entry) × (t ≡ EntryTree e) → v.body ≡ tree_bytes t → map crossref_text (entry_in m t) ≡ None ∷ []
    there t (e, e_is) body =
        let rows = flat_map row_bytes e.rows in
        let end = last_comma_bytes e.last_comma ++ (close_byte e.opening.delimiter ∷ []) in
        let shape = entry_shape (opening_bytes e.opening) e.key e.space_after_key rows (last_comma_bytes e.last_comma) (close_byte e.opening.delimiter ∷ []) in
        ap (λ (x : Tree). map crossref_text (entry_in m x)) e_is
        ∙ ap (λ (o : Option Text). o ∷ []) (rows_lack m v.body (opening_bytes e.opening ++ (e.key ++ e.space_after_key)) end e.rows (body ∙ ap tree_bytes e_is ∙ shape) lacks)

-- ---- the first field of its name

-- there is none
none_in : (m : Macros) (before : Text) (rows : List Row) → find is_crossref (fields_after before rows) ≡ None → None ≡ crossref_in m rows
none_in m before [] none = refl
none_in m before (row ∷ rows) none = ⊎_elim
    (λ is. absurd (none-some (field_after (length before) (before ++ comma ∷ row.space_before_name) row.assignment) (sym none ∙ cond-true (same row.assignment.name crossref) _ _ is)))
    (λ other. none_in m (before ++ row_bytes row) rows (sym (cond-false (same row.assignment.name crossref) (Some (field_after (length before) (before ++ comma ∷ row.space_before_name) row.assignment)) _ other) ∙ none) ∙ sym (row_is_other m row rows other))
    (cases_Bool (same row.assignment.name crossref))

-- it is this one, whose value says the text
found_in : (m : Macros) (f : Field) (text : Text) → OfValue f.value (λ v. text ≡ field_text (raw_text m v)) → (before : Text) (rows : List Row) → All (IsRow name_limit) rows → find is_crossref (fields_after before rows) ≡ Some f → Some text ≡ crossref_in m rows
found_in m f text says before [] are is = absurd (none-some f is)
found_in m f text says before (row ∷ rows) are is =
    let here : Field = field_after (length before) (before ++ comma ∷ row.space_before_name) row.assignment in
    ⊎_elim
    (λ named.
    let good = All-head (IsRow name_limit) row rows are in
    let value : value_bytes row.assignment.value ≡ f.value = ap (λ (g : Field). g.value) (same_Some here f (sym (cond-true (same row.assignment.name crossref) (Some here) (find is_crossref (fields_after (before ++ row_bytes row) rows)) named) ∙ is)) in
    ap Some (says row.assignment.value good.assignment.value value) ∙ sym (row_is_first m row rows named))
    (λ other.
    found_in m f text says (before ++ row_bytes row) rows (All-tail (IsRow name_limit) row rows are) (sym (cond-false (same row.assignment.name crossref) (Some here) (find is_crossref (fields_after (before ++ row_bytes row) rows)) other) ∙ is)
    ∙ sym (row_is_other m row rows other))
    (cases_Bool (same row.assignment.name crossref))

-- what the entry's fields say is said of the entry
fields_seen : (v : View) (i : Item) → is_entry_tree i.tree ≡ true → v ≡ view_of i → crossref_field i.tree ≡ find is_crossref v.fields
fields_seen v i entry seen =
    let e = entry_tree i.tree entry in
    ap crossref_field e.1 ∙ ap (λ (t : Tree). find is_crossref (fields_of t)) (sym e.1) ∙ ap (λ (w : View). find is_crossref w.fields) (sym seen)

pub entry_finds_none : (m : Macros) (v : View) (i : Item) → is_entry_tree i.tree ≡ true → v ≡ view_of i → None ≡ crossref_field i.tree → OfRows v.fields (λ before rows. None ≡ crossref_in m rows)
entry_finds_none m v i entry seen none before rows are fields =
    none_in m before rows (ap (find is_crossref) (sym fields) ∙ sym (fields_seen v i entry seen) ∙ sym none)

pub entry_finds : (m : Macros) (v : View) (i : Item) (f : Field) (text : Text) → is_entry_tree i.tree ≡ true → v ≡ view_of i → Some f ≡ crossref_field i.tree → OfValue f.value (λ w. text ≡ field_text (raw_text m w)) → OfRows v.fields (λ before rows. Some text ≡ crossref_in m rows)
entry_finds m v i f text entry seen some says before rows are fields =
    found_in m f text says before rows are (ap (find is_crossref) (sym fields) ∙ sym (fields_seen v i entry seen) ∙ sym some)

-- ---- row by row

-- the crossref of these rows is that of the rows left
pub record IsAhead (m : Macros) (rows : List Row) (left : List Field) : Type 0 where
  pub before : Text
  pub rows_left : List Row
  pub are_rows : All (IsRow name_limit) rows_left
  pub fields : left ≡ fields_after before rows_left
  pub crossref_text : crossref_in m rows ≡ crossref_in m rows_left

pub record AreAhead (all : List Field) (m : Macros) (left : List Field) : Type 0 where
  pub rest : OfRows all (λ before rows. IsAhead m rows left)

pub ahead_start : (all : List Field) (m : Macros) → AreAhead all m all
ahead_start all m = record {
  rest = λ before rows are fields. record { before = before; rows_left = rows; are_rows = are; fields = fields; crossref_text = refl };
}

is_more : (m : Macros) (rows : List Row) (field : Field) (left : List Field) → same field.name crossref ≡ false
    → (before : Text) (rows_left : List Row) → All (IsRow name_limit) rows_left → field ∷ left ≡ fields_after before rows_left → crossref_in m rows ≡ crossref_in m rows_left
    → IsAhead m rows left
is_more m rows field left other before [] are fields cross = absurd (nil_cons field left (sym fields))
is_more m rows field left other before (row ∷ others) are fields cross =
    let same_parts = cons_parts field (field_after (length before) (before ++ comma ∷ row.space_before_name) row.assignment) left (fields_after (before ++ row_bytes row) others) fields in
    let name : field.name ≡ row.assignment.name = ap (λ (f : Field). f.name) same_parts.0 in
    record {
      before = before ++ row_bytes row;
      rows_left = others;
      are_rows = All-tail (IsRow name_limit) row others are;
      fields = same_parts.1;
      crossref_text = cross ∙ row_is_other m row others (subst (λ (n : Text). same n crossref ≡ false) name other);
    }

pub ahead_more : (all : List Field) (m : Macros) (field : Field) (left now : List Field) → same field.name crossref ≡ false → now ≡ field ∷ left → AreAhead all m now → AreAhead all m left
ahead_more all m field left now other is to = record {
  rest = λ before rows are fields.
      let r = to.rest before rows are fields in
      is_more m rows field left other r.before r.rows_left r.are_rows (sym is ∙ r.fields) r.crossref_text;
}

is_found : (m : Macros) (rows : List Row) (field : Field) (left : List Field) (text : Text) → same field.name crossref ≡ true → OfValue field.value (λ v. text ≡ field_text (raw_text m v))
    → (before : Text) (rows_left : List Row) → All (IsRow name_limit) rows_left → field ∷ left ≡ fields_after before rows_left → crossref_in m rows ≡ crossref_in m rows_left
    → Some text ≡ crossref_in m rows
is_found m rows field left text is says before [] are fields cross = absurd (nil_cons field left (sym fields))
is_found m rows field left text is says before (row ∷ others) are fields cross =
    let same_parts = cons_parts field (field_after (length before) (before ++ comma ∷ row.space_before_name) row.assignment) left (fields_after (before ++ row_bytes row) others) fields in
    let name : field.name ≡ row.assignment.name = ap (λ (f : Field). f.name) same_parts.0 in
    let value : value_bytes row.assignment.value ≡ field.value = ap (λ (f : Field). f.value) (sym same_parts.0) in
    let good = All-head (IsRow name_limit) row others are in
    ap Some (says row.assignment.value good.assignment.value value)
    ∙ sym (cross ∙ row_is_first m row others (subst (λ (n : Text). same n crossref ≡ true) name is))

pub ahead_found : (all : List Field) (m : Macros) (field : Field) (left now : List Field) (text : Text) → same field.name crossref ≡ true → OfValue field.value (λ v. text ≡ field_text (raw_text m v))
    → now ≡ field ∷ left → AreAhead all m now → OfRows all (λ before rows. Some text ≡ crossref_in m rows)
ahead_found all m field left now text is says at to before rows are fields =
    let r = to.rest before rows are fields in
    is_found m rows field left text is says r.before r.rows_left r.are_rows (sym at ∙ r.fields) r.crossref_text

is_none : (m : Macros) (rows : List Row) (before : Text) (rows_left : List Row) → [] ≡ fields_after before rows_left → crossref_in m rows ≡ crossref_in m rows_left → None ≡ crossref_in m rows
is_none m rows before [] fields cross = sym cross
is_none m rows before (row ∷ others) fields cross =
    absurd (nil_cons (field_after (length before) (before ++ comma ∷ row.space_before_name) row.assignment) (fields_after (before ++ row_bytes row) others) fields)

pub ahead_none : (all : List Field) (m : Macros) (left : List Field) → left ≡ [] → AreAhead all m left → OfRows all (λ before rows. None ≡ crossref_in m rows)
ahead_none all m left end to before rows are fields =
    let r = to.rest before rows are fields in
    is_none m rows r.before r.rows_left (sym end ∙ r.fields) r.crossref_text
