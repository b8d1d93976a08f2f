-- The fields that are read from left to right are the fields of the tree.
use Rattle.bib_scan.proofs.Words.{◌≡◌, ℕ, zero, suc, ◌-◌, ◌<◌, ◌≤◌, true, false, eqb, List, [], ◌∷◌, ◌++◌, length, refl, sym, ap, subst, ◌∙◌, arith, append_assoc, Option, None, Some, Ok, ne_eqb, not_from_false, both_ways, and_left, length-append, All-head, All-tail, flat_map, All, result_ok}
use Rattle.bib_scan.proofs.Words.{name_limit, Text, is_space, after_run, Assignment, Row, Value, value_bytes, row_bytes, IsAssignment, IsRow, IsLastComma, IsValue, IsSpace, Read, read_assignment, read_value, begins_name, Field, field_after, fields_after, first_field, first_and_others, kind_after}
use Rattle.bib_scan.proofs.Words.{fields_left, all_fields_left, Kind}
use Rattle.bib_scan.specs.FieldsLeft.{read_field}
use Rattle.bib_scan.specs.declared.view.Kind.TheVariants as kind
use Rattle.bib_scan.proofs.ValueLaws.{skip_space}
use Rattle.bib_scan.proofs.RowLaws.{assignment_inside, row_shape}
use Rattle.bib_scan.proofs.AgainLaws.{EndsRow, Close, after_space, no_link, name_stands, value_again, assignment_again, rows_inside, rows_begin}

-- ---- one field

-- the text before a value, and the text from the value on
before_value : (before : Text) (a : Assignment) (u : Text) → before ++ assignment_inside a u ≡ (before ++ a.name ++ a.space_before_equals ++ 61 ∷ a.space_before_value) ++ (value_bytes a.value ++ (a.space_after ++ u))
before_value before a u =
    let v : Text = value_bytes a.value ++ (a.space_after ++ u) in
    sym (append_assoc (before ++ a.name ++ a.space_before_equals) (61 ∷ a.space_before_value) v ∙ append_assoc (before ++ a.name) a.space_before_equals _ ∙ append_assoc before a.name _)

pub field_again : (total start : ℕ) (before : Text) (a : Assignment) (b : ℕ) (x : Text) → IsAssignment name_limit a → EndsRow b → total ≡ length (before ++ assignment_inside a (b ∷ x)) → read_field total start (assignment_inside a (b ∷ x)) ≡ Ok (field_after start before a, b ∷ x)
field_again total start before a b x is ends whole =
    let t5 : Text = value_bytes a.value ++ (a.space_after ++ (b ∷ x)) in
    let front : Text = before ++ a.name ++ a.space_before_equals ++ 61 ∷ a.space_before_value in
    let name_at : total - length (assignment_inside a (b ∷ x)) ≡ length before = omega (arith, whole, length-append before (assignment_inside a (b ∷ x))) in
    let value_at : total - length t5 ≡ length front = omega (arith, whole, ap (length {A = ℕ}) (before_value before a (b ∷ x)), length-append front t5) in
    rw (assignment_again name_limit a b x is ends, name_at, value_at) refl

-- ---- none

pub none_left : (n total : ℕ) (t : Text) → fields_left n kind.Comment total t ≡ []
unfolding fields_left
none_left zero total t = refl
none_left (suc n) total t = refl

-- ---- the fields of rows

close_no_comma : (c : ℕ) → Close c → eqb c 44 ≡ false
close_no_comma c close = ne_eqb c 44 (λ e. both_ways (eqb 44 c) close.no_comma (subst (λ (n : ℕ). eqb 44 n ≡ true) (sym e) refl))

-- no name begins with a closing delimiter
pub no_assignment : (total start c : ℕ) (x : Text) → Close c → result_ok (read_field total start (c ∷ x)) ≡ None
unfolding read_assignment
no_assignment total start c x close =
    let none : begins_name (c ∷ x) ≡ false = and_left _ _ close.ends.breaks.name in
    rw none refl

pub no_field : (total c : ℕ) (tail : Option Text) (x : Text) → IsLastComma tail → Close c → first_field kind.Entry total (rows_inside c [] tail x) ≡ None
no_field total c None x space close = rw (close_no_comma c close) refl
no_field total c (Some s) x space close =
    let skipped : after_run is_space (s ++ c ∷ x) ≡ c ∷ x = skip_space s (c ∷ x) space (not_from_false _ close.ends.no_space) in
    rw skipped (no_assignment total _ c x close)

-- the first of some rows is read as its field
pub row_field_again : (r : Row) (rs : List Row) (total c : ℕ) (before : Text) (tail : Option Text) (x : Text) → All (IsRow name_limit) (r ∷ rs) → Close c → total ≡ length (before ++ rows_inside c (r ∷ rs) tail x) →
    first_field kind.Entry total (rows_inside c (r ∷ rs) tail x) ≡ Some (field_after (length before) (before ++ 44 ∷ r.space_before_name) r.assignment, rows_inside c rs tail x)
row_field_again r rs total c before tail x all close whole =
    let ok = All-head (IsRow name_limit) r rs all in
    let begin = rows_begin c rs tail x close in
    let rest : Text = rows_inside c rs tail x in
    let named : Text = assignment_inside r.assignment rest in
    let front : Text = before ++ 44 ∷ r.space_before_name in
    let shape : rows_inside c (r ∷ rs) tail x ≡ 44 ∷ (r.space_before_name ++ named) = append_assoc (row_bytes r) (flat_map row_bytes rs) _ ∙ row_shape r _ in
    let whole_is : total ≡ length (front ++ named) = whole ∙ ap (λ (u : Text). length (before ++ u)) shape ∙ ap (length {A = ℕ}) (sym (append_assoc before (44 ∷ r.space_before_name) named)) in
    let start : total - length (44 ∷ (r.space_before_name ++ named)) ≡ length before = omega (arith, whole, ap (λ (u : Text). length (before ++ u)) shape, length-append before (44 ∷ (r.space_before_name ++ named))) in
    let skipped : after_run is_space (r.space_before_name ++ named) ≡ named = skip_space r.space_before_name named ok.space_before_name (name_stands name_limit r.assignment.name _ ok.assignment.name) in
    let read : read_field total (length before) named ≡ Ok (field_after (length before) front r.assignment, rest) =
    subst (λ (u : Text). total ≡ length (front ++ assignment_inside r.assignment u) → read_field total (length before) (assignment_inside r.assignment u) ≡ Ok (field_after (length before) front r.assignment, u)) (sym begin.3) (field_again total (length before) front r.assignment begin.0 begin.1 ok.assignment begin.2) whole_is in
    let found : first_field kind.Entry total (44 ∷ (r.space_before_name ++ named)) ≡ Some (field_after (length before) front r.assignment, rest) = rw (start, skipped, read) refl in
    ap (first_field kind.Entry total) shape ∙ found

some_first : (t : Text) (n total : ℕ) (y : Field × Text) → first_field kind.Entry total t ≡ Some y → fields_left (suc n) kind.Entry total t ≡ y.0 ∷ fields_left n kind.Entry total y.1
unfolding fields_left
some_first t n total y is = ap (λ (o : Option (Field × Text)). first_and_others o (fields_left n kind.Entry total)) is

pub rows_fields_again : (rs : List Row) (n total c : ℕ) (before : Text) (tail : Option Text) (x : Text) → All (IsRow name_limit) rs → IsLastComma tail → Close c → length rs ≤ n → total ≡ length (before ++ rows_inside c rs tail x) → fields_left n kind.Entry total (rows_inside c rs tail x) ≡ fields_after before rs
unfolding fields_left
rows_fields_again [] zero total c before tail x all space close room whole = refl
rows_fields_again [] (suc n) total c before tail x all space close room whole = ap (λ (o : Option (Field × Text)). first_and_others o (fields_left n kind.Entry total)) (no_field total c tail x space close)
rows_fields_again (r ∷ rs) zero total c before tail x all space close room whole = absurd (omega arith)
rows_fields_again (r ∷ rs) (suc n) total c before tail x all space close room whole =
    let shape : rows_inside c (r ∷ rs) tail x ≡ row_bytes r ++ rows_inside c rs tail x = append_assoc (row_bytes r) (flat_map row_bytes rs) _ in
    let later = rows_fields_again rs n total c (before ++ row_bytes r) tail x (All-tail (IsRow name_limit) r rs all) space close (omega arith) (whole ∙ ap (λ (u : Text). length (before ++ u)) shape ∙ ap (length {A = ℕ}) (sym (append_assoc before (row_bytes r) (rows_inside c rs tail x)))) in
    some_first (rows_inside c (r ∷ rs) tail x) n total _ (row_field_again r rs total c before tail x all close whole)
    ∙ ap (λ (fs : List Field). field_after (length before) (before ++ 44 ∷ r.space_before_name) r.assignment ∷ fs) later

-- ---- the one field of definitions and preambles

one_field : (n total : ℕ) (k : Kind) (t : Text) (x : Field × Text) → 0 < n → first_field k total t ≡ Some x → kind_after k ≡ kind.Comment → fields_left n k total t ≡ x.0 ∷ []
unfolding fields_left
one_field zero total k t x some found last = absurd (omega arith)
one_field (suc n) total k t x some found last =
    ap (λ (o : Option (Field × Text)). first_and_others o (fields_left n (kind_after k) total)) found
    ∙ ap (λ (j : Kind). x.0 ∷ fields_left n j total x.1) last
    ∙ ap (λ (fs : List Field). x.0 ∷ fs) (none_left n total x.1)

pub definition_field_again : (total : ℕ) (before : Text) (a : Assignment) (b : ℕ) (x : Text) → IsAssignment name_limit a → EndsRow b → total ≡ length (before ++ assignment_inside a (b ∷ x)) → all_fields_left kind.Macro total (assignment_inside a (b ∷ x)) ≡ field_after (length before) before a ∷ []
definition_field_again total before a b x is ends whole =
    let t : Text = assignment_inside a (b ∷ x) in
    let start : total - length t ≡ length before = omega (arith, whole, length-append before t) in
    let read = field_again total (length before) before a b x is ends whole in
    let found : first_field kind.Macro total t ≡ Some (field_after (length before) before a, b ∷ x) = ap (λ (n : ℕ). result_ok (read_field total n t)) start ∙ ap (λ (m : Read Field). result_ok m) read in
    let some : 0 < length t = omega (arith, ap (length {A = ℕ}) (before_value [] a (b ∷ x)), length-append (a.name ++ a.space_before_equals) (61 ∷ a.space_before_value), length-append (a.name ++ a.space_before_equals ++ 61 ∷ a.space_before_value) (value_bytes a.value ++ (a.space_after ++ b ∷ x))) in
    one_field (length t) total kind.Macro t _ some found refl

-- the field of a preamble that begins after the text `before`
abbrev pub preamble_field : Text → Value → Field
preamble_field before v = record { name = []; value = value_bytes v; start = length before; name_at = length before; value_at = length before }

pub preamble_field_again : (total : ℕ) (before : Text) (v : Value) (s : Text) (b : ℕ) (x : Text) → IsValue name_limit v → IsSpace s → EndsRow b → total ≡ length (before ++ (value_bytes v ++ (s ++ b ∷ x))) → all_fields_left kind.Preamble total (value_bytes v ++ (s ++ b ∷ x)) ≡ preamble_field before v ∷ []
preamble_field_again total before v s b x is space ends whole =
    let t : Text = value_bytes v ++ (s ++ b ∷ x) in
    let start : total - length t ≡ length before = omega (arith, whole, length-append before t) in
    let read : read_value name_limit t ≡ Ok (value_bytes v, s ++ b ∷ x) = value_again name_limit v (s ++ b ∷ x) is (after_space s b x space ends.breaks) (no_link s b x space ends) in
    let found : first_field kind.Preamble total t ≡ Some (preamble_field before v, s ++ b ∷ x) = rw (start, read) refl in
    let some : 0 < length t = omega (arith, length-append (value_bytes v) (s ++ b ∷ x), length-append s (b ∷ x)) in
    one_field (length t) total kind.Preamble t _ some found refl
