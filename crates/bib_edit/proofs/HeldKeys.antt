-- Whether an entry has a key, told by the count of those that have it.
use Rattle.bib_edit.proofs.Words.{◌≡◌, ◌+◌, nat_lt, Bool, false, true, ◌||◌, List, [], ◌∷◌, length, count_by, ⊎_elim, refl, sym, ◌∙◌, ap, ap₂, arith, list_any, cases_Bool, true≢false, false_from_ne_true, lt-ltb, Text, folded, same, is_new_key, Reading, is_empty, entries_of, keys_of}
use Rattle.bib_edit.proofs.Words.{is_named, holders, same-true, same_comm, count-yes, count-no, new_key_parts}

not_empty_folded : (key : Text) → is_empty key ≡ false → folded key ≡ [] → ⊥
not_empty_folded [] h e = true≢false h
not_empty_folded (b ∷ key) h e = let l = ap length e in omega (arith, l)

pub named-same : (key k : Text) → is_empty key ≡ false → is_named key k ≡ same key k
named-same key [] h = sym (false_from_ne_true (same key []) (λ t. not_empty_folded key h (same-true key [] t)))
named-same key (b ∷ k) h = same_comm (b ∷ k) key

pub named-any : (key : Text) (keys : List Text) → is_empty key ≡ false → list_any (is_named key) keys ≡ list_any (same key) keys
named-any key [] h = refl
named-any key (k ∷ keys) h = ap₂ ◌||◌ (named-same key k h) (named-any key keys h)

count-any : {X : Type 0} (p : X → Bool) (xs : List X) → nat_lt 0 (count_by p xs) ≡ list_any p xs
count-any p [] = refl
count-any p (x ∷ xs) = ⊎_elim
    (λ t. ap (nat_lt 0) (count-yes p x xs t) ∙ lt-ltb 0 (1 + count_by p xs) (omega arith) ∙ sym (ap (λ b. b || list_any p xs) t))
    (λ t. ap (nat_lt 0) (count-no p x xs t) ∙ count-any p xs ∙ sym (ap (λ b. b || list_any p xs) t))
    (cases_Bool (p x))

pub counted : (key : Text) (keys : List Text) → is_empty key ≡ false → nat_lt 0 (count_by (is_named key) keys) ≡ list_any (same key) keys
counted key keys h = count-any (is_named key) keys ∙ named-any key keys h

-- a new key is held where it is, folded, an entry's
pub held-any : (key : Text) (db : Reading) → is_new_key key ≡ true → nat_lt 0 (holders key db) ≡ list_any (same key) (keys_of (entries_of db))
held-any key db new = counted key (keys_of (entries_of db)) (new_key_parts key new).0
