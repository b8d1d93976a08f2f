-- If a refusal does not apply, what it denies holds: values and clean texts that are not refuted are values and clean
-- texts.
use Rattle.edit_spec.proofs.Words.{◌≡◌, ℕ, ◌<◌, ◌≤◌, ◌==◌, nat_lt, nat_le, Bool, true, false, ◌&&◌, length, All, ⊎_elim, arith, list_all, cases_Bool, both_ways, and_parts, true_from_ne_false, leb-true, ltb-false, eqb-false, name_limit, file_limit, Text, is_name, is_new_key, IsBalanced}
use Rattle.edit_spec.proofs.Words.{opened_before, closed_before, IsClean, IsCleanTrail, Part, Braced, Quoted, Digits, Macro, Link, Value, is_type, IsSpace, IsPart, IsLink, IsValue, Reading, bytes_of, Record, Edit, BadKey, BadName, BadValue, FileTooLong, HasCleanTexts, edited, IsAccepted}
use Rattle.std.proofs.lemmas.Bool.{leb-false, ltb-true, eqb-true}
use Rattle.edit_spec.specs.Edits.{given_keys, given_names, leaves_crossref, given_types, given_values}

unrefuted_true : (b : Bool) → ((b ≡ true → ⊥) → ⊥) → b ≡ true
unrefuted_true b h = true_from_ne_false b (λ e. h (λ t. both_ways b e t))

unrefuted_false : (b : Bool) → ((b ≡ false → ⊥) → ⊥) → b ≡ false
unrefuted_false b h = ⊎_elim (λ t. absurd (h (λ e. both_ways b e t))) (λ e. e) (cases_Bool b)

unrefuted_eq : (n m : ℕ) → ((n ≡ m → ⊥) → ⊥) → n ≡ m
unrefuted_eq n m h = ⊎_elim (λ t. eqb-true n m t) (λ e. absurd (h (eqb-false n m e))) (cases_Bool (n == m))

unrefuted_le : (n m : ℕ) → ((n ≤ m → ⊥) → ⊥) → n ≤ m
unrefuted_le n m h = ⊎_elim (λ t. leb-true n m t) (λ e. absurd (h (λ le. let lt = leb-false n m e in omega (arith, le, lt)))) (cases_Bool (nat_le n m))

unrefuted_lt : (n m : ℕ) → ((n < m → ⊥) → ⊥) → n < m
unrefuted_lt n m h = ⊎_elim (λ t. ltb-true n m t) (λ e. absurd (h (λ lt. let le = ltb-false n m e in omega (arith, le, lt)))) (cases_Bool (nat_lt n m))

unrefuted_space : (t : Text) → ((IsSpace t → ⊥) → ⊥) → IsSpace t
unrefuted_space t h k d lt = unrefuted_true _ (λ none. h (λ is. none (is k d lt)))

unrefuted_balanced : (t : Text) → ((IsBalanced t → ⊥) → ⊥) → IsBalanced t
unrefuted_balanced t h = record {
  never_negative = λ n. unrefuted_le (closed_before t n) (opened_before t n) (λ none. h (λ is. none (is.never_negative n)));
  all_closed = unrefuted_eq (closed_before t (length t)) (opened_before t (length t)) (λ none. h (λ is. none is.all_closed));
}

unrefuted_part : (limit : ℕ) (part : Part) → ((IsPart limit part → ⊥) → ⊥) → IsPart limit part
unrefuted_part limit (Braced t) h = unrefuted_balanced t h
unrefuted_part limit (Quoted t) h = (
  unrefuted_balanced t (λ none. h (λ is. none is.0)),
  (λ n lt q. unrefuted_lt (closed_before t n) (opened_before t n) (λ none. h (λ is. none (is.1 n lt q)))),
)
unrefuted_part limit (Digits t) h = (
  unrefuted_lt 0 (length t) (λ none. h (λ is. none is.0)),
  (λ k d lt. unrefuted_true _ (λ none. h (λ is. none (is.1 k d lt)))),
)
unrefuted_part limit (Macro t) h = unrefuted_true _ h

unrefuted_link : (limit : ℕ) (l : Link) → ((IsLink limit l → ⊥) → ⊥) → IsLink limit l
unrefuted_link limit l h = record {
  space_before_hash = unrefuted_space l.space_before_hash (λ none. h (λ is. none is.space_before_hash));
  space_after_hash = unrefuted_space l.space_after_hash (λ none. h (λ is. none is.space_after_hash));
  part = unrefuted_part limit l.part (λ none. h (λ is. none is.part));
}

unrefuted_value : (limit : ℕ) (v : Value) → ((IsValue limit v → ⊥) → ⊥) → IsValue limit v
unrefuted_value limit v h = record {
  first = unrefuted_part limit v.first (λ none. h (λ is. none is.first));
  links = λ k d lt. unrefuted_link limit _ (λ none. h (λ is. none (is.links k d lt)));
}

unrefuted_clean : (t : Text) → ((IsClean t → ⊥) → ⊥) → IsClean t
unrefuted_clean t h p = unrefuted_false _ (λ none. h (λ is. none (is p)))

unrefuted_trail : (after_comment : Bool) (t : Text) → ((IsCleanTrail after_comment t → ⊥) → ⊥) → IsCleanTrail after_comment t
unrefuted_trail after_comment t h = record {
  clean = unrefuted_clean t (λ none. h (λ is. none is.clean));
  ends_name = λ e. unrefuted_true _ (λ none. h (λ is. none (is.ends_name e)));
}

pub unrefuted_texts : (db : Reading) → ((HasCleanTexts db → ⊥) → ⊥) → HasCleanTexts db
unrefuted_texts db h = record {
  front = unrefuted_clean db.front (λ none. h (λ is. none is.front));
  trails = λ k d lt. unrefuted_trail _ _ (λ none. h (λ is. none (is.trails k d lt)));
}

-- ---- an accepted edit

module _ (key_base : Record → Text) (db : Reading) (e : Edit) (accepted : IsAccepted key_base db e) where
  pub given_keys-are : list_all is_new_key (given_keys e) ≡ true
  given_keys-are = true_from_ne_false (list_all is_new_key (given_keys e)) (accepted BadKey)

  left : (leaves_crossref e ≡ true) × ((list_all is_name (given_names e) && list_all is_type (given_types e)) ≡ true)
  left = and_parts (leaves_crossref e) (list_all is_name (given_names e) && list_all is_type (given_types e))
      (true_from_ne_false (leaves_crossref e && (list_all is_name (given_names e) && list_all is_type (given_types e))) (accepted BadName))

  named : (list_all is_name (given_names e) ≡ true) × (list_all is_type (given_types e) ≡ true)
  named = and_parts (list_all is_name (given_names e)) (list_all is_type (given_types e)) left.1

  pub crossref-is_left : leaves_crossref e ≡ true
  crossref-is_left = left.0

  pub given_names-are : list_all is_name (given_names e) ≡ true
  given_names-are = named.0

  pub given_types-are : list_all is_type (given_types e) ≡ true
  given_types-are = named.1

  pub given_values-are : All (IsValue name_limit) (given_values e)
  given_values-are k d lt = unrefuted_value name_limit _ (λ none. accepted BadValue (λ is. none (is k d lt)))

  pub edited-short : length (bytes_of (edited key_base db e)) ≤ file_limit
  edited-short = ⊎_elim
      (λ t. absurd (accepted FileTooLong (ltb-true file_limit (length (bytes_of (edited key_base db e))) t)))
      (λ t. ltb-false file_limit (length (bytes_of (edited key_base db e))) t)
      (cases_Bool (nat_lt file_limit (length (bytes_of (edited key_base db e)))))
