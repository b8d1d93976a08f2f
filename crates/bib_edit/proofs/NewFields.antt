-- The fields of an entry to be added, judged one after another.
use Rattle.bib_spec.specs.Text.{is_name_within}
use Rattle.bib_edit.proofs.Words.{◌≡◌, ℕ, ◌+◌, ◌<◌, ◌≤◌, ◌==◌, Bool, true, false, ◌&&◌, ◌||◌, nat_lt, nat_le, List, [], ◌∷◌, ◌++◌, Some, slice_get, get_or, length, take, drop, ⊎_elim, refl, sym, ◌∙◌, ap, subst, arith, take-append-drop, and-false, list_all, list_any, cases_Bool}
use Rattle.bib_edit.proofs.Words.{and_parts, both_ways, eqb-true, eqb-false, leb-true, slice_get_read, same_Some, map-append, list_all-append, name_limit, Text, same, is_name, does_not_begin_with, Reading, IsValueWithin, has_same, names_of, HaveValuesTo, IsLong, AreShortTo}
use Rattle.bib_edit.proofs.SeenNames.{take-read}

-- ---- lines

-- ---- names

module _ (fields : List (Text × Text)) (i : ℕ) (field : Text × Text) (lt : i < length fields) (at : field ≡ get_or fields i field) where
  pub names-more : names_of (take (i + 1) fields) ≡ names_of (take i fields) ++ field.0 ∷ []
  names-more = ap names_of (take-read fields i field lt at) ∙ map-append (λ field. field.0) (take i fields) (field ∷ [])

  pub names-split : names_of fields ≡ names_of (take (i + 1) fields) ++ names_of (drop (i + 1) fields)
  names-split = ap names_of (sym (take-append-drop (i + 1) fields)) ∙ map-append (λ field. field.0) (take (i + 1) fields) (drop (i + 1) fields)

pub all-fails : (p : Text → Bool) (fields : List (Text × Text)) (i : ℕ) (field : Text × Text) → i < length fields → field ≡ get_or fields i field →
    p field.0 ≡ false → list_all p (names_of fields) ≡ false
all-fails p fields i field lt at this =
    ap (list_all p) (names-split fields i field lt at) ∙ list_all-append p (names_of (take (i + 1) fields)) (names_of (drop (i + 1) fields))
    ∙ ap (λ b. b && list_all p (names_of (drop (i + 1) fields))) (ap (list_all p) (names-more fields i field lt at) ∙ list_all-append p (names_of (take i fields)) (field.0 ∷ []) ∙ ap (λ b. list_all p (names_of (take i fields)) && (b && true)) this ∙ and-false (list_all p (names_of (take i fields))))

-- a name of the list is one
pub name-at : (fields : List (Text × Text)) (i : ℕ) (field : Text × Text) → i < length fields → field ≡ get_or fields i field → list_all is_name (names_of fields) ≡ true → is_name field.0 ≡ true
name-at fields i field lt at h = ⊎_elim (λ t. t) (λ e. absurd (both_ways (list_all is_name (names_of fields)) (all-fails is_name fields i field lt at e) h)) (cases_Bool (is_name field.0))

pub name-short : (t : Text) → is_name t ≡ true → length t ≤ name_limit
unfolding is_name_within
name-short t h =
    let three = and_parts (nat_lt 0 (length t) && nat_le (length t) name_limit && does_not_begin_with _ t) (list_all _ t) h in
    let two = and_parts (nat_lt 0 (length t) && nat_le (length t) name_limit) (does_not_begin_with _ t) three.0 in
    leb-true (length t) name_limit (and_parts (nat_lt 0 (length t)) (nat_le (length t) name_limit) two.0).1

any-names : (test : Text → Bool) (fields : List (Text × Text)) → list_any test (names_of fields) ≡ list_any (λ field. test field.0) fields
any-names test [] = refl
any-names test (field ∷ fields) = ap (λ b. test field.0 || b) (any-names test fields)

-- the first name is compared with those after it
pub same-first : (fields others : List (Text × Text)) (first : Text × Text) (name : Text) (found : Bool) → fields ≡ first ∷ others → name ≡ first.0 →
    list_any (λ field. same name field.0) others ≡ found → has_same (names_of fields) ≡ (found || has_same (names_of others))
same-first fields others first name found is named h =
    ap (λ (fs : List (Text × Text)). has_same (names_of fs)) is
    ∙ ap (λ b. b || has_same (names_of others)) (any-names (same first.0) others ∙ ap (λ (t : Text). list_any (λ field. same t field.0) others) (sym named) ∙ h)

-- ---- values

module _ (fields : List (Text × Text)) (i : ℕ) (field : Text × Text) (lt : i < length fields) (at : field ≡ get_or fields i field) where
  pub stands : slice_get fields i ≡ Some field
  stands = slice_get_read fields (length fields) i field refl lt at

  pub values-more : HaveValuesTo fields i → IsValueWithin name_limit field.1 → HaveValuesTo fields (i + 1)
  values-more before this k other le e = ⊎_elim
      (λ t. let here : k ≡ i = eqb-true k i t in
      subst (λ (f : Text × Text). IsValueWithin name_limit f.1) (same_Some field other (sym stands ∙ sym (ap (slice_get fields) here) ∙ e)) this)
      (λ t. let apart = eqb-false k i t in before k other (omega (arith, le, apart)) e)
      (cases_Bool (k == i))

  pub short-more : (db : Reading) (n : ℕ) → AreShortTo db n fields i → IsLong false db n field.1 → AreShortTo db n fields (i + 1)
  short-more db n before this k other le e = ⊎_elim
      (λ t. let here : k ≡ i = eqb-true k i t in
      subst (λ (f : Text × Text). IsLong false db n f.1) (same_Some field other (sym stands ∙ sym (ap (slice_get fields) here) ∙ e)) this)
      (λ t. let apart = eqb-false k i t in before k other (omega (arith, le, apart)) e)
      (cases_Bool (k == i))
