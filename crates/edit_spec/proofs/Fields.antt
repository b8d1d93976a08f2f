-- The fields of an entry whose crossref gets another text.
use Rattle.edit_spec.proofs.Words.{◌≡◌, Bool, true, false, not, List, ◌∷◌, Option, Some, None, option_map, ⊎_elim, refl, sym, ◌∙◌, ap, map, filter, find, append-nil, cases_Bool, cond-true, cond-false, not_from_false, none-some, Text, same, Row, Macros, field_text, Field, EntryTexts, field_of}
use Rattle.edit_spec.proofs.Words.{crossref, has_name, own_fields, row_to, with_value, in_braces, with_crossref, option_cases}
use Rattle.std.proofs.Common.{[]}
use Rattle.std.proofs.lemmas.Bool.{not_from_true}
use Rattle.std.specs.Prelude.{if◌then◌else◌}
use Rattle.bib_spec.specs.Records.{record_field, effective}

-- a field with another text
abbrev pub saying : Text → Field → Field
saying text field = record field { raw = text }

-- the first field of this name with another text
abbrev pub with_text : Text → Text → List Field → List Field
with_text name text [] = []
with_text name text (field ∷ fields) = if same field.name name then record field { raw = text } ∷ fields else field ∷ with_text name text fields

abbrev pub crossref_to : Option Text → List Field → List Field
crossref_to None fields = fields
crossref_to (Some key) fields = with_text crossref key fields

with_text-map : (m : Macros) (name key : Text) (rows : List Row) → map (field_of m) (with_value name (in_braces key) rows) ≡ with_text name key (map (field_of m) rows)
with_text-map m name key [] = refl
with_text-map m name key (row ∷ rows) = ⊎_elim
    (λ e. ap (map (field_of m)) (cond-true (same row.assignment.name name) (row_to (in_braces key) row ∷ rows) (row ∷ with_value name (in_braces key) rows) e)
    ∙ ap (λ t. let it : Field = record { name = row.assignment.name; raw = t } in it ∷ map (field_of m) rows) (append-nil key)
    ∙ sym (cond-true (same row.assignment.name name) (record (field_of m row) { raw = key } ∷ map (field_of m) rows) (field_of m row ∷ with_text name key (map (field_of m) rows)) e))
    (λ e. ap (map (field_of m)) (cond-false (same row.assignment.name name) (row_to (in_braces key) row ∷ rows) (row ∷ with_value name (in_braces key) rows) e)
    ∙ ap (λ rest. field_of m row ∷ rest) (with_text-map m name key rows)
    ∙ sym (cond-false (same row.assignment.name name) (record (field_of m row) { raw = key } ∷ map (field_of m) rows) (field_of m row ∷ with_text name key (map (field_of m) rows)) e))
    (cases_Bool (same row.assignment.name name))

pub crossref_to-map : (m : Macros) (o : Option Text) (rows : List Row) → map (field_of m) (with_crossref o rows) ≡ crossref_to o (map (field_of m) rows)
crossref_to-map m None rows = refl
crossref_to-map m (Some key) rows = with_text-map m crossref key rows

find-with_text : (name key : Text) (fields : List Field) → find (has_name name) (with_text name key fields) ≡ option_map (saying key) (find (has_name name) fields)
find-with_text name key [] = refl
find-with_text name key (field ∷ fields) = ⊎_elim
    (λ e. ap (find (has_name name)) (cond-true (same field.name name) (record field { raw = key } ∷ fields) (field ∷ with_text name key fields) e)
    ∙ cond-true (same field.name name) (Some (record field { raw = key })) (find (has_name name) fields) e
    ∙ sym (ap (option_map (saying key)) (cond-true (same field.name name) (Some field) (find (has_name name) fields) e)))
    (λ e. ap (find (has_name name)) (cond-false (same field.name name) (record field { raw = key } ∷ fields) (field ∷ with_text name key fields) e)
    ∙ cond-false (same field.name name) (Some field) (find (has_name name) (with_text name key fields)) e
    ∙ find-with_text name key fields
    ∙ sym (ap (option_map (saying key)) (cond-false (same field.name name) (Some field) (find (has_name name) fields) e)))
    (cases_Bool (same field.name name))

-- the crossref's text, if there is a crossref
pub text-with_text : (key was : Text) (fields : List Field) → option_map (λ field. field_text field.raw) (find (has_name crossref) fields) ≡ Some was →
    option_map (λ field. field_text field.raw) (find (has_name crossref) (with_text crossref key fields)) ≡ Some (field_text key)
text-with_text key was fields e = ⊎_elim
    (λ none. absurd (none-some was (sym (ap (option_map (λ field. field_text field.raw)) none) ∙ e)))
    (λ some. ap (option_map (λ field. field_text field.raw)) (find-with_text crossref key fields ∙ ap (option_map (saying key)) some.1))
    (option_cases (find (has_name crossref) fields))

-- two filters in either order
pub filter_comm : {X : Type 0} (p q : X → Bool) (xs : List X) → filter p (filter q xs) ≡ filter q (filter p xs)
filter_comm p q [] = refl
filter_comm p q (x ∷ xs) = ⊎_elim
    (λ hp. ⊎_elim
    (λ hq. ap (filter p) (cond-true (q x) (x ∷ filter q xs) (filter q xs) hq) ∙ cond-true (p x) (x ∷ filter p (filter q xs)) (filter p (filter q xs)) hp
    ∙ ap (λ l. x ∷ l) (filter_comm p q xs)
    ∙ sym (ap (filter q) (cond-true (p x) (x ∷ filter p xs) (filter p xs) hp) ∙ cond-true (q x) (x ∷ filter q (filter p xs)) (filter q (filter p xs)) hq))
    (λ hq. ap (filter p) (cond-false (q x) (x ∷ filter q xs) (filter q xs) hq) ∙ filter_comm p q xs
    ∙ sym (ap (filter q) (cond-true (p x) (x ∷ filter p xs) (filter p xs) hp) ∙ cond-false (q x) (x ∷ filter q (filter p xs)) (filter q (filter p xs)) hq))
    (cases_Bool (q x)))
    (λ hp. ⊎_elim
    (λ hq. ap (filter p) (cond-true (q x) (x ∷ filter q xs) (filter q xs) hq) ∙ cond-false (p x) (x ∷ filter p (filter q xs)) (filter p (filter q xs)) hp
    ∙ filter_comm p q xs
    ∙ sym (ap (filter q) (cond-false (p x) (x ∷ filter p xs) (filter p xs) hp)))
    (λ hq. ap (filter p) (cond-false (q x) (x ∷ filter q xs) (filter q xs) hq) ∙ filter_comm p q xs
    ∙ sym (ap (filter q) (cond-false (p x) (x ∷ filter p xs) (filter p xs) hp)))
    (cases_Bool (q x)))
    (cases_Bool (p x))

-- the first field of each name, without the crossref
abbrev shown : List Field → List Field
shown fields = filter (λ field. not (has_name crossref field)) (effective fields)

shown-crossref : (field : Field) (fields : List Field) → same field.name crossref ≡ true →
    shown (field ∷ fields) ≡ filter (λ field. not (has_name crossref field)) (filter (λ other. not (has_name field.name other)) (effective fields))
shown-crossref field fields e =
    cond-false (not (same field.name crossref)) (field ∷ filter (λ field. not (has_name crossref field)) (filter (λ other. not (has_name field.name other)) (effective fields)))
    (filter (λ field. not (has_name crossref field)) (filter (λ other. not (has_name field.name other)) (effective fields))) (not_from_true (same field.name crossref) e)

shown-other : (field : Field) (fields : List Field) → same field.name crossref ≡ false → shown (field ∷ fields) ≡ field ∷ filter (λ other. not (has_name field.name other)) (shown fields)
shown-other field fields e =
    cond-true (not (same field.name crossref)) (field ∷ filter (λ field. not (has_name crossref field)) (filter (λ other. not (has_name field.name other)) (effective fields)))
    (filter (λ field. not (has_name crossref field)) (filter (λ other. not (has_name field.name other)) (effective fields))) (not_from_false (same field.name crossref) e)
    ∙ ap (λ l. field ∷ l) (filter_comm (λ field. not (has_name crossref field)) (λ other. not (has_name field.name other)) (effective fields))

shown-with_text : (key : Text) (fields : List Field) → shown (with_text crossref key fields) ≡ shown fields
shown-with_text key [] = refl
shown-with_text key (field ∷ fields) = ⊎_elim
    (λ e. ap shown (cond-true (same field.name crossref) (record field { raw = key } ∷ fields) (field ∷ with_text crossref key fields) e)
    ∙ shown-crossref (record field { raw = key }) fields e ∙ sym (shown-crossref field fields e))
    (λ e. ap shown (cond-false (same field.name crossref) (record field { raw = key } ∷ fields) (field ∷ with_text crossref key fields) e)
    ∙ shown-other field (with_text crossref key fields) e ∙ ap (λ l. field ∷ filter (λ other. not (has_name field.name other)) l) (shown-with_text key fields) ∙ sym (shown-other field fields e))
    (cases_Bool (same field.name crossref))

-- what a record shows of an entry doesn't read its crossref
pub own_fields-crossref_to : (o : Option Text) (entry : EntryTexts) (key : Text) → own_fields (record entry { key = key; fields = crossref_to o entry.fields }) ≡ own_fields entry
own_fields-crossref_to None entry key = refl
own_fields-crossref_to (Some text) entry key = ap (map record_field) (shown-with_text text entry.fields)
