-- Texts in which nothing is found: ASCII is UTF-8, and what a value says without a macro is in its bytes.
use Rattle.bib_answers.proofs.Words.{◌≡◌, ◌∙◌, ℕ, zero, suc, ◌+◌, ◌<◌, ◌≤◌, Bool, true, false, cond, cond-true, cond-false, not, map, List, [], ◌∷◌, ◌++◌, refl, ap, list_any, ⊎_elim, cases_Bool, Text, Field, Part, Macros}
use Rattle.std.proofs.Common.{count_by, arith}
use Rattle.std.specs.Prelude.{◌||◌}
use Rattle.std.specs.Char.{is_ascii}
use Rattle.std.specs.List.{flat_map}
use Rattle.std.specs.Str.{is_utf8, IsAscii}
use Rattle.std.proofs.lemmas.Bool.{ltb-true, true≢false}
use Rattle.std.proofs.lemmas.Str.{IsUtf8-from_ascii, is_utf8-from_IsUtf8}
use Rattle.bib_spec.specs.Bytes.{open_brace, close_brace, quote, hash}
use Rattle.bib_spec.specs.Tree.{Braced, Quoted, Digits, Macro, Value, Link, part_bytes, link_bytes, value_bytes}
use Rattle.bib_spec.specs.Texts.{field_text, part_text, raw_text}
use Rattle.bib_persons.specs.Persons.{is_comma_byte, has_names, refused_names}
use Rattle.bib_persons.proofs.Counts.{count-cons, count-append, count-field_text}
use Rattle.bib_answers.specs.declared.warnings.Warning.TheVariants.{ManyCommas}
use Rattle.bib_answers.specs.Lint.{found, is_use, has_uses, encoding_findings, field_encoding_findings, text_findings, own_findings}
use Rattle.bib_answers.specs.Plain.{is_other}

ascii_of : (t : Text) → count_by is_other t ≡ 0 → IsAscii t
ascii_of [] none i = let e : 0 < 128 = omega arith in e
ascii_of (b ∷ t) none zero = ⊎_elim
    (λ yes_ascii. ltb-true b 128 yes_ascii)
    (λ no_ascii. absurd (
    let here : cond {A = ℕ} (is_other b) 1 0 ≡ 1 = ap (λ (a : Bool). cond {A = ℕ} (not a) 1 0) no_ascii in
    let e = count-cons is_other b t in
    omega (arith, here, e, none)))
    (cases_Bool (is_ascii b))
ascii_of (b ∷ t) none (suc i) = ascii_of t (let e = count-cons is_other b t in omega (arith, e, none)) i

utf8_of : (t : Text) → count_by is_other t ≡ 0 → is_utf8 t ≡ true
utf8_of t none = is_utf8-from_IsUtf8 t (IsUtf8-from_ascii t (ascii_of t none))

-- nothing is found in a field whose name and raw text are ASCII, unless it is a list of names
plain_text : (field : Field) (raw : Text) → count_by is_other field.name ≡ 0 → count_by is_other raw ≡ 0 → (has_names field.name ≡ true → refused_names (field_text raw) ≡ [])
    → text_findings field (field_text raw) ≡ []
plain_text field raw name all few =
    let spelled : is_utf8 field.name ≡ true = utf8_of field.name name in
    let said : is_utf8 (field_text raw) ≡ true = utf8_of (field_text raw) (let most = count-field_text is_other raw refl in omega (arith, most, all)) in
    rw (spelled, said) (no_names (has_names field.name) few)
  where
    no_names : (named : Bool) → (named ≡ true → refused_names (field_text raw) ≡ []) → (cond named (flat_map (found ManyCommas field.value_at) (refused_names (field_text raw))) [] ++ []) ≡ []
    no_names true none = ap (λ (names : List Text). flat_map (found ManyCommas field.value_at) names ++ []) (none refl)
    no_names false none = refl

-- nothing is found in the encoding of a field whose name and text are ASCII
pub plain_field_encoding : (field : Field) (text : Text) → count_by is_other field.name ≡ 0 → count_by is_other text ≡ 0 → field_encoding_findings field text ≡ []
plain_field_encoding field text name all =
    let spelled : is_utf8 field.name ≡ true = utf8_of field.name name in
    let said : is_utf8 text ≡ true = utf8_of text all in
    rw (spelled, said) refl

-- nothing is found in the encoding of a type and a key that are ASCII
pub plain_encoding : (at : ℕ) (type_name key : Text) → count_by is_other type_name ≡ 0 → count_by is_other key ≡ 0 → encoding_findings at type_name key ≡ []
plain_encoding at type_name key typed keyed =
    let spelled : is_utf8 type_name ≡ true = utf8_of type_name typed in
    let named : is_utf8 key ≡ true = utf8_of key keyed in
    rw (spelled, named) refl

-- ---- what a value says without a macro

-- no more of a class of bytes is in what a part says than in the bytes of the part
part_within : (p : ℕ → Bool) (macros : Macros) (part : Part) → is_use part ≡ false → count_by p (part_text macros part) ≤ count_by p (part_bytes part)
part_within p macros (Braced t) none = let e = count-cons p open_brace (t ++ close_brace ∷ []) in let f = count-append p t (close_brace ∷ []) in omega (arith, e, f)
part_within p macros (Quoted t) none = let e = count-cons p quote (t ++ quote ∷ []) in let f = count-append p t (quote ∷ []) in omega (arith, e, f)
part_within p macros (Digits t) none = omega arith
part_within p macros (Macro name) none = absurd (true≢false none)

left_none : (x y : Bool) → (x || y) ≡ false → x ≡ false
left_none true y e = e
left_none false y e = refl

right_none : (x y : Bool) → (x || y) ≡ false → y ≡ false
right_none true y e = absurd (true≢false e)
right_none false y e = e

links_within : (p : ℕ → Bool) (macros : Macros) (links : List Link) → list_any is_use (map (λ (l : Link). l.part) links) ≡ false
    → count_by p (flat_map (part_text macros) (map (λ (l : Link). l.part) links)) ≤ count_by p (flat_map link_bytes links)
links_within p macros [] none = omega arith
links_within p macros (l ∷ links) none =
    let rest = links_within p macros links (right_none (is_use l.part) (list_any is_use (map (λ (l : Link). l.part) links)) none) in
    let one = part_within p macros l.part (left_none (is_use l.part) (list_any is_use (map (λ (l : Link). l.part) links)) none) in
    let said = count-append p (part_text macros l.part) (flat_map (part_text macros) (map (λ (l : Link). l.part) links)) in
    let whole = count-append p (link_bytes l) (flat_map link_bytes links) in
    let link : count_by p (part_bytes l.part) ≤ count_by p (link_bytes l) =
    let e = count-append p (l.space_before_hash ++ hash ∷ l.space_after_hash) (part_bytes l.part) in
    omega (arith, e) in
    omega (arith, rest, one, said, whole, link)

-- no more of a class of bytes is in what a value says than in its bytes
value_within : (p : ℕ → Bool) (macros : Macros) (v : Value) → has_uses v ≡ false → count_by p (raw_text macros v) ≤ count_by p (value_bytes v)
value_within p macros v none =
    let links = links_within p macros v.links (right_none (is_use v.first) (list_any is_use (map (λ (l : Link). l.part) v.links)) none) in
    let one = part_within p macros v.first (left_none (is_use v.first) (list_any is_use (map (λ (l : Link). l.part) v.links)) none) in
    let said = count-append p (part_text macros v.first) (flat_map (part_text macros) (map (λ (l : Link). l.part) v.links)) in
    let whole = count-append p (part_bytes v.first) (flat_map link_bytes v.links) in
    omega (arith, links, one, said, whole)

-- the text of a value that uses no macro and whose bytes are ASCII
pub plain_said : (macros : Macros) (v : Value) → has_uses v ≡ false → count_by is_other (value_bytes v) ≡ 0 → count_by is_other (field_text (raw_text macros v)) ≡ 0
plain_said macros v none value =
    let most = value_within is_other macros v none in
    let less = count-field_text is_other (raw_text macros v) refl in
    omega (arith, most, less, value)

-- nothing is found in a field of an entry whose name and value are ASCII, unless it is a list of names
pub plain_own : (field : Field) (macros : Macros) (v : Value) → count_by is_other field.name ≡ 0 → count_by is_other (value_bytes v) ≡ 0
    → (has_names field.name ≡ true → (raw : Text) → count_by is_comma_byte raw ≤ count_by is_comma_byte (value_bytes v) → refused_names (field_text raw) ≡ []) → own_findings macros field v ≡ []
plain_own field macros v name value few = ⊎_elim
    (λ some. cond-true (has_uses v) [] (text_findings field (field_text (raw_text macros v))) some)
    (λ none. cond-false (has_uses v) [] (text_findings field (field_text (raw_text macros v))) none
    ∙ plain_text field (raw_text macros v) name (let most = value_within is_other macros v none in omega (arith, most, value))
    (λ named. few named (raw_text macros v) (value_within is_comma_byte macros v none)))
    (cases_Bool (has_uses v))
