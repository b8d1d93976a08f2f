-- The tokens of fields, one field after another.
use Rattle.std.proofs.Common.{◌≡◌, ◌∙◌, ℕ, ◌+◌, ◌<◌, Bool, true, false, ◌&&◌, List, [], ◌∷◌, ◌++◌, length, take, drop, get_or, refl, sym, ap, append_assoc}
use Rattle.std.specs.List.{flat_map}
use Rattle.std.specs.Str.{is_utf8}
use Rattle.std.proofs.lemmas.List.{flat_map_more, take_more, take-append-drop}
use Rattle.json.specs.Token.{Token, end_object, key, string}
use Rattle.json.specs.Tree.{members_tokens}
use Rattle.bib_spec.specs.Records.{RecordField}
use Rattle.entry_json.specs.EntryJson.{fields_json, are_fields_utf8}

-- a field's name and text
abbrev pub field_tokens : RecordField → List Token
field_tokens field = key field.0 ∷ string field.1 ∷ []

-- the members of an object, and its end
pub tokens_all : (fields : List RecordField) → flat_map field_tokens fields ++ end_object ∷ [] ≡ members_tokens (fields_json fields)
tokens_all [] = refl
tokens_all (field ∷ fields) = ap (λ (ts : List Token). key field.0 ∷ string field.1 ∷ ts) (tokens_all fields)

-- the fields up to a field are the fields before it, and that field
take_next : {F : Type 0} (fields : List F) (i : ℕ) (d field : F) → i < length fields → field ≡ get_or fields i d → take (i + 1) fields ≡ take i fields ++ field ∷ []
take_next {F} fields i d field within is = take_more fields i d within ∙ ap (λ (f : F). take i fields ++ f ∷ []) (sym is)

-- the tokens of one more field
pub tokens_next : {F : Type 0} (tokens : F → List Token) (start now : List Token) (fields : List F) (i : ℕ) (d field : F) → i < length fields → field ≡ get_or fields i d
    → now ≡ start ++ flat_map tokens (take i fields) → now ++ tokens field ≡ start ++ flat_map tokens (take (i + 1) fields)
tokens_next tokens start now fields i d field within at is =
    ap (λ (ts : List Token). ts ++ tokens field) is
    ∙ append_assoc start (flat_map tokens (take i fields)) (tokens field)
    ∙ ap (λ (ts : List Token). start ++ ts)
    (flat_map_more tokens [] (take i fields) field ∙ sym (ap (flat_map tokens) (take_next fields i d field within at)))

-- one more field
pub tokens_more : (start now : List Token) (fields : List RecordField) (i : ℕ) (field : RecordField) → i < length fields → field ≡ get_or fields i field
    → now ≡ start ++ flat_map field_tokens (take i fields)
    → (now ++ key field.0 ∷ []) ++ string field.1 ∷ [] ≡ start ++ flat_map field_tokens (take (i + 1) fields)
tokens_more start now fields i field within at is =
    append_assoc now (key field.0 ∷ []) (string field.1 ∷ []) ∙ tokens_next field_tokens start now fields i field field within at is

and_assoc : (a b c : Bool) → ((a && b) && c) ≡ (a && (b && c))
and_assoc true b c = refl
and_assoc false b c = refl

utf8-append : (xs ys : List RecordField) → are_fields_utf8 (xs ++ ys) ≡ (are_fields_utf8 xs && are_fields_utf8 ys)
utf8-append [] ys = refl
utf8-append (x ∷ xs) ys =
    ap (λ b. is_utf8 x.0 && (is_utf8 x.1 && b)) (utf8-append xs ys)
    ∙ ap (λ b. is_utf8 x.0 && b) (sym (and_assoc (is_utf8 x.1) (are_fields_utf8 xs) (are_fields_utf8 ys)))
    ∙ sym (and_assoc (is_utf8 x.0) (is_utf8 x.1 && are_fields_utf8 xs) (are_fields_utf8 ys))

utf8_next : (fields : List RecordField) (i : ℕ) (field : RecordField) (b : Bool) → i < length fields → field ≡ get_or fields i field → are_fields_utf8 (take i fields) ≡ true
    → are_fields_utf8 (field ∷ []) ≡ b → are_fields_utf8 (take (i + 1) fields) ≡ b
utf8_next fields i field b within at before this =
    ap are_fields_utf8 (take_next fields i field field within at) ∙ utf8-append (take i fields) (field ∷ [])
    ∙ ap (λ b. b && are_fields_utf8 (field ∷ [])) before ∙ this

-- one more field that is UTF-8
pub utf8_more : (fields : List RecordField) (i : ℕ) (field : RecordField) → i < length fields → field ≡ get_or fields i field → are_fields_utf8 (take i fields) ≡ true
    → are_fields_utf8 (field ∷ []) ≡ true → are_fields_utf8 (take (i + 1) fields) ≡ true
utf8_more fields i field within at before this = utf8_next fields i field true within at before this

-- if one of the fields is not UTF-8, the fields are not
pub utf8_not : (fields : List RecordField) (i : ℕ) (field : RecordField) → i < length fields → field ≡ get_or fields i field → are_fields_utf8 (take i fields) ≡ true
    → are_fields_utf8 (field ∷ []) ≡ false → are_fields_utf8 fields ≡ false
utf8_not fields i field within at before this =
    ap are_fields_utf8 (sym (take-append-drop (i + 1) fields)) ∙ utf8-append (take (i + 1) fields) (drop (i + 1) fields)
    ∙ ap (λ b. b && are_fields_utf8 (drop (i + 1) fields)) (utf8_next fields i field false within at before this)
