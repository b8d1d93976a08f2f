-- Whether a new key is in use.
use Rattle.bib_edit.proofs.Words.{◌≡◌, Bool, true, false, not, ◌&&◌, ◌||◌, nat_lt, List, [], ◌∷◌, count_by, ⊎_elim, refl, sym, ◌∙◌, ap, ap₂, list_any, cases_Bool, both_ways, and_from, or_from, Text, same, is_empty, EntryTexts, and_parts}
use Rattle.bib_edit.proofs.Words.{keys_of, is_named, same-true, true-same, is_awaited}
use Rattle.bib_edit.specs.Dangling.{is_in_use}
use Rattle.bib_edit.proofs.HeldKeys.{named-same, counted}

-- none of those with the new key has the old one, if that is another
others : (from to : Text) (keys : List Text) → same from to ≡ false → list_any (λ key. same to key && not (is_named from key)) keys ≡ list_any (same to) keys
others from to [] other = refl
others from to (key ∷ keys) other = ap₂ ◌||◌ (each (same to key) (is_named from key) (λ t n. both_ways (same from to) other
    (true-same from to (sym (same-true key from (and_parts (not (is_empty key)) (same key from) n).1) ∙ sym (same-true to key t))))) (others from to keys other)
  where
    each : (a b : Bool) → (a ≡ true → b ≡ true → ⊥) → (a && not b) ≡ a
    each false b h = refl
    each true false h = refl
    each true true h = absurd (h refl refl)

-- and each of them, if it is the same
none_other : (from to : Text) (keys : List Text) → is_empty to ≡ false → same from to ≡ true → list_any (λ key. same to key && not (is_named from key)) keys ≡ false
none_other from to [] h same_key = refl
none_other from to (key ∷ keys) h same_key =
    or_from (same to key && not (is_named from key)) (list_any (λ key. same to key && not (is_named from key)) keys)
    (each (same to key) (is_named from key) (λ t. and_from (not (is_empty key)) (same key from) (and_parts (not (is_empty key)) (same key to) (named-same to key h ∙ t)).0 (true-same key from (sym (same-true to key t) ∙ sym (same-true from to same_key)))))
    (none_other from to keys h same_key)
  where
    each : (a b : Bool) → (a ≡ true → b ≡ true) → (a && not b) ≡ false
    each false b h = refl
    each true true h = refl
    each true false h = absurd (both_ways false refl (h refl))

-- the new key is in use as it is tested
pub in-use : (from to : Text) (entries : List EntryTexts) → is_empty to ≡ false →
    ((not (same from to) && nat_lt 0 (count_by (is_named to) (keys_of entries))) || is_awaited to entries) ≡ is_in_use from to entries
in-use from to entries h = ap (λ b. b || is_awaited to entries) (⊎_elim
    (λ t. ap (λ b. not b && nat_lt 0 (count_by (is_named to) (keys_of entries))) t ∙ sym (none_other from to (keys_of entries) h t))
    (λ t. ap (λ b. not b && nat_lt 0 (count_by (is_named to) (keys_of entries))) t ∙ counted to (keys_of entries) h ∙ sym (others from to (keys_of entries) t))
    (cases_Bool (same from to)))
