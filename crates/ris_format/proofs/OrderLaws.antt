-- Fields in the order of a table are found again by the names of the table.
use Rattle.ris_format.proofs.Words.{◌≡◌, Bool, true, false, ◌&&◌, eqb, [], ◌∷◌, length, refl, sym, ap, ◌∙◌, ⊎_elim, arith, list_any, list_all, option_map_or, bytes_eq, cases_Bool, cond-true, cond-false, and_from, and_parts, and_left, or_parts, or_right, or_left, not-true, both_ways, ne_eqb, Text}
use Rattle.ris_format.proofs.Words.{RecordField, eq-true, true-eq, has_bytes, Fields, is_filled, text_of, field, are_in_order, is_plain_field}
use Rattle.std.proofs.Common.{not, List, map}
use Rattle.std.specs.Prelude.{filter}

-- no two of the names are the same
abbrev pub are_distinct : List Text → Bool
are_distinct [] = true
are_distinct (name ∷ names) = not (list_any (bytes_eq name) names) && are_distinct names

abbrev pub is_filled_field : RecordField → Bool
is_filled_field f = has_bytes f.1

-- the field of this name, with an empty text if there is no such field
abbrev pub found : Fields → Text → RecordField
found fields name = field name (text_of fields name)

text-here : (name : Text) (f : RecordField) (fields : Fields) → is_filled name f ≡ true → text_of (f ∷ fields) name ≡ f.1
text-here name f fields h = ap (λ c. option_map_or (λ (g : RecordField). g.1) c []) (cond-true (is_filled name f) _ _ h)

text-past : (name : Text) (f : RecordField) (fields : Fields) → is_filled name f ≡ false → text_of (f ∷ fields) name ≡ text_of fields name
text-past name f fields h = ap (λ c. option_map_or (λ (g : RecordField). g.1) c []) (cond-false (is_filled name f) _ _ h)

other-name : (name : Text) (f : RecordField) → bytes_eq f.0 name ≡ false → is_filled name f ≡ false
other-name name f h = and_left (bytes_eq f.0 name) (has_bytes f.1) h

-- a name that is not among those of the order is not found
absent : (name : Text) (names : List Text) (fields : Fields) → list_any (bytes_eq name) names ≡ false → are_in_order names fields ≡ true → text_of fields name ≡ []
absent name names [] none order = refl
absent name [] (f ∷ fields) none order = absurd (cc)
absent name (n ∷ names) (f ∷ fields) none order =
    let p = or_parts (bytes_eq name n) (list_any (bytes_eq name) names) none in
    ⊎_elim
    (λ (h : bytes_eq f.0 n ≡ true).
    let other : bytes_eq f.0 name ≡ false =
    ⊎_elim
    (λ (same : bytes_eq f.0 name ≡ true). absurd (both_ways (bytes_eq name n) p.0 (true-eq name n (sym (eq-true f.0 name same) ∙ eq-true f.0 n h))))
    (λ (e : bytes_eq f.0 name ≡ false). e)
    (cases_Bool (bytes_eq f.0 name)) in
    text-past name f fields (other-name name f other)
    ∙ absent name names fields p.1 (sym (cond-true (bytes_eq f.0 n) (are_in_order names fields) _ h) ∙ order))
    (λ (h : bytes_eq f.0 n ≡ false). absent name names (f ∷ fields) p.1 (sym (cond-false (bytes_eq f.0 n) (are_in_order names fields) _ h) ∙ order))
    (cases_Bool (bytes_eq f.0 n))

-- names other than the first field's are looked for after it
found-past : (f : RecordField) (fields : Fields) (names : List Text) → list_any (bytes_eq f.0) names ≡ false → map (found (f ∷ fields)) names ≡ map (found fields) names
found-past f fields [] none = refl
found-past f fields (n ∷ names) none =
    let p = or_parts (bytes_eq f.0 n) (list_any (bytes_eq f.0) names) none in
    ap (λ (t : Text). field n t ∷ map (found (f ∷ fields)) names) (text-past n f fields (other-name n f p.0))
    ∙ ap (λ (fs : Fields). found fields n ∷ fs) (found-past f fields names p.1)

nothing-found : (names : List Text) → filter is_filled_field (map (found []) names) ≡ []
nothing-found [] = refl
nothing-found (n ∷ names) = nothing-found names

-- the names of a table find the fields that are in its order
pub found-in_order : (names : List Text) (fields : Fields) → are_distinct names ≡ true → are_in_order names fields ≡ true → list_all is_filled_field fields ≡ true → filter is_filled_field (map (found fields) names) ≡ fields
found-in_order names [] apart order filled = nothing-found names
found-in_order [] (f ∷ fields) apart order filled = absurd (cc)
found-in_order (n ∷ names) (f ∷ fields) apart order filled =
    let p = and_parts (not (list_any (bytes_eq n) names)) (are_distinct names) apart in
    let q = and_parts (is_filled_field f) (list_all is_filled_field fields) filled in
    let other : list_any (bytes_eq n) names ≡ false = not-true (list_any (bytes_eq n) names) p.0 in
    ⊎_elim
    (λ (h : bytes_eq f.0 n ≡ true).
    let same : f.0 ≡ n = eq-true f.0 n h in
    let here : found (f ∷ fields) n ≡ f = ap (field n) (text-here n f fields (and_from (bytes_eq f.0 n) (has_bytes f.1) h q.0)) ∙ ap (λ (m : Text). field m f.1) (sym same) in
    ap (λ (g : RecordField). filter is_filled_field (g ∷ map (found (f ∷ fields)) names)) here
    ∙ cond-true (is_filled_field f) (f ∷ filter is_filled_field (map (found (f ∷ fields)) names)) _ q.0
    ∙ ap (λ (fs : Fields). f ∷ filter is_filled_field fs) (found-past f fields names (ap (λ (m : Text). list_any (bytes_eq m) names) same ∙ other))
    ∙ ap (λ (fs : Fields). f ∷ fs) (found-in_order names fields p.1 (sym (cond-true (bytes_eq f.0 n) (are_in_order names fields) _ h) ∙ order) q.1))
    (λ (h : bytes_eq f.0 n ≡ false).
    let later : are_in_order names (f ∷ fields) ≡ true = sym (cond-false (bytes_eq f.0 n) (are_in_order names fields) _ h) ∙ order in
    let none : has_bytes (text_of (f ∷ fields) n) ≡ false = ap has_bytes (absent n names (f ∷ fields) other later) in
    cond-false (has_bytes (text_of (f ∷ fields) n)) (found (f ∷ fields) n ∷ filter is_filled_field (map (found (f ∷ fields)) names)) _ none
    ∙ found-in_order names (f ∷ fields) p.1 later filled)
    (cases_Bool (bytes_eq f.0 n))

-- ---- what holds of each field holds of the one found

pub found-plain : (name : Text) (fields : Fields) → list_all is_plain_field fields ≡ true → has_bytes (text_of fields name) ≡ true → is_plain_field (found fields name) ≡ true
found-plain name [] all some = absurd (cc)
found-plain name (f ∷ fields) all some =
    let p = and_parts (is_plain_field f) (list_all is_plain_field fields) all in
    ⊎_elim
    (λ (h : is_filled name f ≡ true).
    let same : f.0 ≡ name = eq-true f.0 name (and_parts (bytes_eq f.0 name) (has_bytes f.1) h).0 in
    ap (λ (t : Text). is_plain_field (field name t)) (text-here name f fields h) ∙ ap (λ (m : Text). is_plain_field (field m f.1)) (sym same) ∙ p.0)
    (λ (h : is_filled name f ≡ false).
    let past = text-past name f fields h in
    ap (λ (t : Text). is_plain_field (field name t)) past ∙ found-plain name fields p.1 (ap has_bytes (sym past) ∙ some))
    (cases_Bool (is_filled name f))

-- a field in the order of a table has a name of the table
pub in-order-named : (names : List Text) (f : RecordField) (fields : Fields) → are_in_order names (f ∷ fields) ≡ true → list_any (bytes_eq f.0) names ≡ true
in-order-named [] f fields order = absurd (cc)
in-order-named (n ∷ names) f fields order =
    ⊎_elim
    (λ (h : bytes_eq f.0 n ≡ true). or_left (bytes_eq f.0 n) (list_any (bytes_eq f.0) names) h)
    (λ (h : bytes_eq f.0 n ≡ false). or_right (bytes_eq f.0 n) (list_any (bytes_eq f.0) names) (in-order-named names f fields (sym (cond-false (bytes_eq f.0 n) (are_in_order names fields) _ h) ∙ order)))
    (cases_Bool (bytes_eq f.0 n))

-- all fields of an order have its names
pub all-named : (names : List Text) (fields : Fields) → are_in_order names fields ≡ true → list_all (λ (f : RecordField). list_any (bytes_eq f.0) names) fields ≡ true
all-named names [] order = refl
all-named [] (f ∷ fields) order = absurd (cc)
all-named (n ∷ names) (f ∷ fields) order =
    and_from _ _ (in-order-named (n ∷ names) f fields order)
    (⊎_elim
    (λ (h : bytes_eq f.0 n ≡ true). more n names fields (all-named names fields (sym (cond-true (bytes_eq f.0 n) (are_in_order names fields) _ h) ∙ order)))
    (λ (h : bytes_eq f.0 n ≡ false). more n names fields (and_parts _ _ (all-named names (f ∷ fields) (sym (cond-false (bytes_eq f.0 n) (are_in_order names fields) _ h) ∙ order))).1)
    (cases_Bool (bytes_eq f.0 n)))
  where
    more : (n : Text) (names : List Text) (fields : Fields) → list_all (λ (f : RecordField). list_any (bytes_eq f.0) names) fields ≡ true → list_all (λ (f : RecordField). list_any (bytes_eq f.0) (n ∷ names)) fields ≡ true
    more n names [] all = refl
    more n names (g ∷ fields) all =
        let p = and_parts (list_any (bytes_eq g.0) names) _ all in
        and_from _ _ (or_right (bytes_eq g.0 n) (list_any (bytes_eq g.0) names) p.0) (more n names fields p.1)

-- no names are left: the order is kept where no fields are left
pub order-left : (fields : Fields) → eqb (length fields) 0 ≡ are_in_order [] fields
order-left [] = refl
order-left (f ∷ fields) = ne_eqb (length (f ∷ fields)) 0 (λ e. absurd (omega arith))
