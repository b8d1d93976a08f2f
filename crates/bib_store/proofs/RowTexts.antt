-- The texts of an entry's rows, row by row.
use Rattle.bib_store.proofs.Words.{◌≡◌, ℕ, ◌+◌, ◌<◌, ◌≤◌, List, [], ◌∷◌, ◌++◌, length, map, nat_lt, Option, Some, None, option_map, ⊎_elim, refl, sym, ◌∙◌, ap, arith, length-append, option_or, cases_Bool, cond-true, cond-false, le-ltb, lt-ltb, All-head, All-tail, comma, equals_sign, name_limit}
use Rattle.bib_store.proofs.Words.{Text, same, Row, IsRow, value_bytes, row_bytes, Macros, raw_text, raw_limit, field_text, row_start, bytes_before_value, field_of, has_name, crossref, field_after, fields_after, OfValue, first_too_long, row_texts, crossref_in, OfRows}
use Rattle.std.proofs.Common.{All}
use Rattle.std.specs.Prelude.{find}
use Rattle.bib_spec.specs.Records as records
use Rattle.bib_scan.specs.View.{Field}
use Rattle.bib_store.specs.ItemTexts.{said_by}

-- ---- lists

pub cons_parts : {X : Type 0} (x y : X) (xs ys : List X) → x ∷ xs ≡ y ∷ ys → (x ≡ y) × (xs ≡ ys)
cons_parts {X} x y xs ys e = (ap (λ (l : List X). first l) e, ap (λ (l : List X). others l) e)
  where
    first : List X → X
    first [] = x
    first (z ∷ zs) = z

    others : List X → List X
    others [] = []
    others (z ∷ zs) = zs

pub nil_cons : {X : Type 0} (x : X) (xs : List X) → [] ≡ x ∷ xs → ⊥
nil_cons x xs e = absurd (omega (arith, ap length e))

-- ---- the first text that is too long

pub first_fits : (n : ℕ) (t : Text) (texts : List (ℕ × Text)) → length t ≤ raw_limit → first_too_long ((n, t) ∷ texts) ≡ first_too_long texts
first_fits n t texts fits = ap (option_map (λ (p : ℕ × Text). p.0)) (cond-false (nat_lt raw_limit (length t)) (Some (n, t)) (find (λ (p : ℕ × Text). nat_lt raw_limit (length p.1)) texts) (le-ltb raw_limit (length t) fits))

pub first_over : (n : ℕ) (t : Text) (texts : List (ℕ × Text)) → raw_limit < length t → first_too_long ((n, t) ∷ texts) ≡ Some n
first_over n t texts over = ap (option_map (λ (p : ℕ × Text). p.0)) (cond-true (nat_lt raw_limit (length t)) (Some (n, t)) (find (λ (p : ℕ × Text). nat_lt raw_limit (length p.1)) texts) (lt-ltb raw_limit (length t) over))

-- ---- one row more

pub crossref_more : (m : Macros) (row : Row) (rows : List Row) (found : Option Text)
    → option_or found (crossref_in m (row ∷ rows)) ≡ option_or (option_or found (said_by m row.assignment.name row.assignment.value)) (crossref_in m rows)
crossref_more m row rows (Some t) = refl
crossref_more m row rows None =
    let test = same row.assignment.name crossref in
    let says : Text = field_text (raw_text m row.assignment.value) in
    ⊎_elim
    (λ e. ap (option_map (λ (field : records.Field). field_text field.raw)) (cond-true test (Some (field_of m row)) (find (has_name crossref) (map (field_of m) rows)) e)
    ∙ sym (ap (λ o. option_or o (crossref_in m rows)) (cond-true test (Some says) None e)))
    (λ e. ap (option_map (λ (field : records.Field). field_text field.raw)) (cond-false test (Some (field_of m row)) (find (has_name crossref) (map (field_of m) rows)) e)
    ∙ sym (ap (λ o. option_or o (crossref_in m rows)) (cond-false test (Some says) None e)))
    (cases_Bool test)

value_place : (before : Text) (row : Row) → (field_after (length before) (before ++ comma ∷ row.space_before_name) row.assignment).value_at ≡ length before + length (row_start row)
value_place before row =
    let sp = comma ∷ row.space_before_name in
    let a = row.assignment in
    let rest = equals_sign ∷ a.space_before_value in
    omega (
      arith,
      length-append before sp,
      length-append (before ++ sp) a.name,
      length-append (before ++ sp ++ a.name) a.space_before_equals,
      length-append (before ++ sp ++ a.name ++ a.space_before_equals) rest,
      length-append sp (bytes_before_value a),
      length-append a.name (a.space_before_equals ++ rest),
      length-append a.space_before_equals rest,
    )

-- ---- the walk

-- what is yet to be found among the rows left: the crossref, unless it was found, and the first text that is too long
pub record IsRest (m : Macros) (rows : List Row) (at : ℕ) (found : Option Text) (left : List Field) : Type 0 where
  pub before : Text
  pub rows_left : List Row
  pub are_rows : All (IsRow name_limit) rows_left
  pub fields : left ≡ fields_after before rows_left
  pub crossref_text : crossref_in m rows ≡ option_or found (crossref_in m rows_left)
  pub too_long : first_too_long (row_texts at m rows) ≡ first_too_long (row_texts (length before) m rows_left)

pub record RowsTo (all : List Field) (m : Macros) (found : Option Text) (left : List Field) : Type 0 where
  pub rest : OfRows all (λ before rows. IsRest m rows (length before) found left)

pub rows_start : (all : List Field) (m : Macros) → RowsTo all m None all
rows_start all m = record {
  rest = λ before rows are fields. record { before = before; rows_left = rows; are_rows = are; fields = fields; crossref_text = refl; too_long = refl };
}

rest_more : (m : Macros) (rows : List Row) (at : ℕ) (found new : Option Text) (field : Field) (left : List Field)
    → OfValue field.value (λ v. new ≡ option_or found (said_by m field.name v))
    → OfValue field.value (λ v. length (raw_text m v) ≤ raw_limit)
    → (before : Text) (rows_left : List Row) → All (IsRow name_limit) rows_left → field ∷ left ≡ fields_after before rows_left
    → crossref_in m rows ≡ option_or found (crossref_in m rows_left)
    → first_too_long (row_texts at m rows) ≡ first_too_long (row_texts (length before) m rows_left)
    → IsRest m rows at new left
rest_more m rows at found new field left said fits before [] are fields cross long = absurd (nil_cons field left (sym fields))
rest_more m rows at found new field left said fits before (row ∷ others) are fields cross long =
    let same_parts = cons_parts field (field_after (length before) (before ++ comma ∷ row.space_before_name) row.assignment) left (fields_after (before ++ row_bytes row) others) fields in
    let is = All-head (IsRow name_limit) row others are in
    let value : value_bytes row.assignment.value ≡ field.value = ap (λ (f : Field). f.value) (sym same_parts.0) in
    let name : field.name ≡ row.assignment.name = ap (λ (f : Field). f.name) same_parts.0 in
    let says = said row.assignment.value is.assignment.value value in
    record {
      before = before ++ row_bytes row;
      rows_left = others;
      are_rows = All-tail (IsRow name_limit) row others are;
      fields = same_parts.1;
      crossref_text = cross ∙ crossref_more m row others found
          ∙ ap (λ (o : Option Text). option_or o (crossref_in m others)) (sym (says ∙ ap (λ (n : Text). option_or found (said_by m n row.assignment.value)) name));
      too_long = long
          ∙ first_fits (length before + length (row_start row)) (raw_text m row.assignment.value) (row_texts (length before + length (row_bytes row)) m others) (fits row.assignment.value is.assignment.value value)
          ∙ ap (λ (n : ℕ). first_too_long (row_texts n m others)) (sym (length-append before (row_bytes row)));
    }

pub rows_more : (all : List Field) (m : Macros) (found new : Option Text) (field : Field) (left now : List Field)
    → OfValue field.value (λ v. new ≡ option_or found (said_by m field.name v))
    → OfValue field.value (λ v. length (raw_text m v) ≤ raw_limit)
    → now ≡ field ∷ left
    → RowsTo all m found now → RowsTo all m new left
rows_more all m found new field left now said fits is to = record {
  rest = λ before rows are fields.
      let r = to.rest before rows are fields in
      rest_more m rows (length before) found new field left said fits r.before r.rows_left r.are_rows (sym is ∙ r.fields) r.crossref_text r.too_long;
}

rest_over : (m : Macros) (at : ℕ) (field : Field) (left : List Field)
    → OfValue field.value (λ v. raw_limit < length (raw_text m v))
    → (before : Text) (rows_left : List Row) → All (IsRow name_limit) rows_left → field ∷ left ≡ fields_after before rows_left
    → first_too_long (row_texts (length before) m rows_left) ≡ Some field.value_at
rest_over m at field left over before [] are fields = absurd (nil_cons field left (sym fields))
rest_over m at field left over before (row ∷ others) are fields =
    let same_parts = cons_parts field (field_after (length before) (before ++ comma ∷ row.space_before_name) row.assignment) left (fields_after (before ++ row_bytes row) others) fields in
    let is = All-head (IsRow name_limit) row others are in
    first_over (length before + length (row_start row)) (raw_text m row.assignment.value) (row_texts (length before + length (row_bytes row)) m others)
    (over row.assignment.value is.assignment.value (ap (λ (f : Field). f.value) (sym same_parts.0)))
    ∙ ap Some (sym (ap (λ (f : Field). f.value_at) same_parts.0 ∙ value_place before row))

pub rows_over : (all : List Field) (m : Macros) (found : Option Text) (field : Field) (left now : List Field)
    → OfValue field.value (λ v. raw_limit < length (raw_text m v))
    → now ≡ field ∷ left
    → RowsTo all m found now → OfRows all (λ before rows. first_too_long (row_texts (length before) m rows) ≡ Some field.value_at)
rows_over all m found field left now over is to before rows are fields =
    let r = to.rest before rows are fields in
    r.too_long ∙ rest_over m (length before) field left over r.before r.rows_left r.are_rows (sym is ∙ r.fields)

rest_all : (m : Macros) (rows : List Row) (at : ℕ) (found : Option Text)
    → (before : Text) (rows_left : List Row) → [] ≡ fields_after before rows_left
    → crossref_in m rows ≡ option_or found (crossref_in m rows_left)
    → first_too_long (row_texts at m rows) ≡ first_too_long (row_texts (length before) m rows_left)
    → (found ≡ crossref_in m rows) × (first_too_long (row_texts at m rows) ≡ None)
rest_all m rows at None before [] fields cross long = (sym cross, long)
rest_all m rows at (Some t) before [] fields cross long = (sym cross, long)
rest_all m rows at found before (row ∷ others) fields cross long =
    absurd (nil_cons (field_after (length before) (before ++ comma ∷ row.space_before_name) row.assignment) (fields_after (before ++ row_bytes row) others) fields)

pub rows_all : (all : List Field) (m : Macros) (found : Option Text) (left : List Field) → left ≡ [] → RowsTo all m found left
    → OfRows all (λ before rows. (found ≡ crossref_in m rows) × (first_too_long (row_texts (length before) m rows) ≡ None))
rows_all all m found left end to before rows are fields =
    let r = to.rest before rows are fields in
    rest_all m rows (length before) found r.before r.rows_left (sym end ∙ r.fields) r.crossref_text r.too_long
