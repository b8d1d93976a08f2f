-- Fields that are missing from others, by their names.
use Rattle.std.proofs.Common.{◌≡◌, ◌∙◌, Bool, true, false, not, cond, ◌&&◌, ◌||◌, List, [], ◌∷◌, ◌++◌, refl, ap, ap₂}
use Rattle.std.specs.List.{list_any, list_all}
use Rattle.std.proofs.lemmas.Bool.{true≢false, false≢true, and_parts}
use Rattle.std.proofs.lemmas.List.Folds.{list_any-append}
use Rattle.bib_spec.specs.Text.{Text, same}
use Rattle.bib_spec.specs.Records.{RecordField, missing}
use Rattle.bib_spec.proofs.Names.{same_of, same-true, true-same}

-- one of the fields has this name
abbrev pub bears : List RecordField → Text → Bool
bears fields name = list_any (λ other. same other.0 name) fields

-- each of the fields has a name that the others have too
abbrev pub are_borne : List RecordField → List RecordField → Bool
are_borne own fields = list_all (λ field. bears own field.0) fields

-- ---- names

-- names that are the same, folded, are both there or both missing
pub bears_alike : (fields : List RecordField) (a b : Text) → same a b ≡ true → bears fields a ≡ bears fields b
bears_alike [] a b alike = refl
bears_alike (field ∷ fields) a b alike =
    ap (λ c. c || bears fields a) (same_of field.0 a field.0 b refl (same-true a b alike))
    ∙ ap (λ c. same field.0 b || c) (bears_alike fields a b alike)

missing_found : (own others : List RecordField) (name : Text) → (bears own name || bears (missing own others) name) ≡ (bears own name || bears others name)
missing_found own [] name = refl
missing_found own (x ∷ xs) name = at (bears own name) (bears own x.0) (same x.0 name) refl (bears_alike own x.0 name) (missing_found own xs name)
  where
    at : (b k s : Bool) → same x.0 name ≡ s → (s ≡ true → k ≡ b) → (b || bears (missing own xs) name) ≡ (b || bears xs name)
        → (b || bears (cond (not k) (x ∷ missing own xs) (missing own xs)) name) ≡ (b || (s || bears xs name))
    at true k s is alike later = refl
    at false true true is alike later = absurd (true≢false (alike refl))
    at false true false is alike later = later
    at false false s is alike later = ap (λ c. c || bears (missing own xs) name) is ∙ ap (λ c. s || c) later

-- a record with inherited fields has its own names and the names of the others
pub bears_with : (own others : List RecordField) (name : Text) → bears (own ++ missing own others) name ≡ (bears own name || bears others name)
bears_with own others name = list_any-append (λ other. same other.0 name) own (missing own others) ∙ missing_found own others name

-- ---- fields

-- if all names are there, no field is missing
pub missing_none : (own fields : List RecordField) → are_borne own fields ≡ true → missing own fields ≡ []
missing_none own [] all = refl
missing_none own (x ∷ xs) all = at (bears own x.0) all (missing_none own xs)
  where
    at : (b : Bool) → (b && are_borne own xs) ≡ true → (are_borne own xs ≡ true → missing own xs ≡ []) → cond (not b) (x ∷ missing own xs) (missing own xs) ≡ []
    at true all later = later all
    at false all later = absurd (false≢true all)

-- more fields still have all these names
pub borne_more : (own more fields : List RecordField) → ((name : Text) → bears own name ≡ true → bears more name ≡ true) → are_borne own fields ≡ true → are_borne more fields ≡ true
borne_more own more [] wider all = refl
borne_more own more (x ∷ xs) wider all =
    let parts = and_parts (bears own x.0) (are_borne own xs) all in
    ap₂ (λ (p q : Bool). p && q) (wider x.0 parts.0) (borne_more own more xs wider parts.1)

pub or_later : (a b : Bool) → b ≡ true → (a || b) ≡ true
or_later true b later = refl
or_later false b later = later

pub or_first : (a b : Bool) → a ≡ true → (a || b) ≡ true
or_first a b first = ap (λ c. c || b) first

-- a list that has every name that these fields have has the name of each of them
pub borne_by : (fields whole : List RecordField) → ((name : Text) → bears fields name ≡ true → bears whole name ≡ true) → are_borne whole fields ≡ true
borne_by [] whole wider = refl
borne_by (x ∷ xs) whole wider = ap₂ (λ (p q : Bool). p && q)
    (wider x.0 (or_first (same x.0 x.0) (bears xs x.0) (true-same x.0 x.0 refl)))
    (borne_by xs whole (λ name has. wider name (or_later (same x.0 name) (bears xs name) has)))
