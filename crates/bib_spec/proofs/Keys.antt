-- The entries that texts name before and after some entries get new keys that are no other entry's.
use Rattle.std.proofs.Common.{◌≡◌, ◌≢◌, ℕ, zero, suc, ◌+◌, ◌<◌, true, false, not, List, [], ◌∷◌, Option, Some, None, unwrap_or, option_map, slice_get, ◌⊎◌, inl, inr, ⊎_elim, refl, sym, ◌∙◌, ap, arith, add-zero, zero-add}
use Rattle.std.proofs.lemmas.Bool.{false_from_ne_true, both_ways, and_parts, and_from, and_right, not_from_false}
use Rattle.std.proofs.lemmas.Option.{same_Some, none-some}
use Rattle.bib_spec.specs.Text.{Text, folded, same}
use Rattle.bib_spec.specs.Texts.{is_empty}
use Rattle.bib_spec.specs.Records.{first_named, is_named}
use Rattle.bib_spec.proofs.Names.{same-true, true-same}
use Rattle.bib_spec.proofs.Places.{IsFirst, first_from, first_is, none_from, none_is}

pub option_cases : {A : Type 0} (o : Option A) → (o ≡ None) ⊎ ((x : A) × (o ≡ Some x))
option_cases None = inl refl
option_cases (Some x) = inr (x, refl)

-- entry n has the key `new n`, if it gets a new key
abbrev pub keys_with : (ℕ → Option Text) → ℕ → List Text → List Text
keys_with new n [] = []
keys_with new n (key ∷ keys) = unwrap_or (new n) key ∷ keys_with new (suc n) keys

slice_get-keys_with : (new : ℕ → Option Text) (n : ℕ) (keys : List Text) (j : ℕ) → slice_get (keys_with new n keys) j ≡ option_map (λ key. unwrap_or (new (n + j)) key) (slice_get keys j)
slice_get-keys_with new n [] j = refl
slice_get-keys_with new n (key ∷ keys) zero = ap (λ i. Some (unwrap_or (new i) key)) (sym (add-zero n))
slice_get-keys_with new n (key ∷ keys) (suc j) =
    slice_get-keys_with new (suc n) keys j ∙ (let e : suc n + j ≡ n + suc j = omega arith in ap (λ i. option_map (λ key. unwrap_or (new i) key) (slice_get keys j)) e)

-- each new key is a key, and no other entry's new or old one
pub record AreFresh (new : ℕ → Option Text) (keys : List Text) : Type 0 where
  pub nonempty : (n : ℕ) (key : Text) → new n ≡ Some key → is_empty key ≡ false
  pub apart : (n m : ℕ) (key other : Text) → new n ≡ Some key → m ≢ n → slice_get (keys_with new 0 keys) m ≡ Some other → same other key ≡ false

module _ (new : ℕ → Option Text) (keys : List Text) where
  pub key_at : (j : ℕ) (key : Text) → slice_get keys j ≡ Some key → slice_get (keys_with new 0 keys) j ≡ Some (unwrap_or (new j) key)
  key_at j key s = slice_get-keys_with new 0 keys j ∙ ap (λ i. option_map (λ key. unwrap_or (new i) key) (slice_get keys j)) (zero-add j) ∙ ap (option_map (λ key. unwrap_or (new j) key)) s

  pub key_before : (j : ℕ) (other : Text) → slice_get (keys_with new 0 keys) j ≡ Some other → (key : Text) × (slice_get keys j ≡ Some key) × (other ≡ unwrap_or (new j) key)
  key_before j other s = ⊎_elim
      (λ none. absurd (none-some other (sym (slice_get-keys_with new 0 keys j ∙ ap (option_map (λ key. unwrap_or (new (0 + j)) key)) none) ∙ s)))
      (λ some. (some.0, some.1, sym (same_Some (unwrap_or (new j) some.0) other (sym (key_at j some.0 some.1) ∙ s))))
      (option_cases (slice_get keys j))

module _ (new : ℕ → Option Text) (keys : List Text) (fresh : AreFresh new keys) where
  -- a text that named an entry whose key is unchanged still names it
  pub first_kept : (text : Text) (m : ℕ) → first_named text keys ≡ Some m → new m ≡ None → first_named text (keys_with new 0 keys) ≡ Some m
  first_kept text m e stays = first_from text (keys_with new 0 keys) m (record { key = first.key; stands = stands; named = first.named; before = before })
    where
      first : IsFirst text keys m
      first = first_is text keys m e

      stands : slice_get (keys_with new 0 keys) m ≡ Some first.key
      stands = key_at new keys m first.key first.stands ∙ ap (λ o. Some (unwrap_or o first.key)) stays

      before : (j : ℕ) (other : Text) → j < m → slice_get (keys_with new 0 keys) j ≡ Some other → is_named text other ≡ false
      before j other lt s =
          let was = key_before new keys j other s in
          ⊎_elim
          (λ none. ap (is_named text) (was.2 ∙ ap (λ o. unwrap_or o was.0) none) ∙ first.before j was.0 lt was.1)
          (λ some. let ne : m ≢ j = omega arith in
          let differs = fresh.apart j m some.0 first.key some.1 ne stands in
          let is : other ≡ some.0 = was.2 ∙ ap (λ o. unwrap_or o was.0) some.1 in
          and_right (not (is_empty other)) (same other text) (false_from_ne_true (same other text) (λ t.
          both_ways (same first.key some.0) differs
          (true-same first.key some.0 (same-true first.key text (and_parts (not (is_empty first.key)) (same first.key text) first.named).1 ∙ sym (same-true other text t) ∙ ap folded is)))))
          (option_cases (new j))

  -- a new key names its entry
  pub first_new : (text : Text) (m : ℕ) (key : Text) → first_named text keys ≡ Some m → new m ≡ Some key → first_named key (keys_with new 0 keys) ≡ Some m
  first_new text m key e gets = first_from key (keys_with new 0 keys) m (record { key = key; stands = stands; named = named; before = before })
    where
      first : IsFirst text keys m
      first = first_is text keys m e

      stands : slice_get (keys_with new 0 keys) m ≡ Some key
      stands = key_at new keys m first.key first.stands ∙ ap (λ o. Some (unwrap_or o first.key)) gets

      named : is_named key key ≡ true
      named = and_from (not (is_empty key)) (same key key) (not_from_false (is_empty key) (fresh.nonempty m key gets)) (true-same key key refl)

      before : (j : ℕ) (other : Text) → j < m → slice_get (keys_with new 0 keys) j ≡ Some other → is_named key other ≡ false
      before j other lt s = let ne : j ≢ m = omega arith in and_right (not (is_empty other)) (same other key) (fresh.apart m j key other gets ne s)

  -- a text that named no entry, and is no new key, names no entry
  pub first_none : (text : Text) → first_named text keys ≡ None → ((n : ℕ) (key : Text) → new n ≡ Some key → same key text ≡ false) → first_named text (keys_with new 0 keys) ≡ None
  first_none text e h = none_from text (keys_with new 0 keys) none_at
    where
      none_at : (j : ℕ) (other : Text) → slice_get (keys_with new 0 keys) j ≡ Some other → is_named text other ≡ false
      none_at j other s =
          let was = key_before new keys j other s in
          ⊎_elim
          (λ none. ap (is_named text) (was.2 ∙ ap (λ o. unwrap_or o was.0) none) ∙ none_is text keys e j was.0 was.1)
          (λ some. and_right (not (is_empty other)) (same other text) (ap (λ k. same k text) (was.2 ∙ ap (λ o. unwrap_or o was.0) some.1) ∙ h j some.0 some.1))
          (option_cases (new j))
