-- The one entry that has a key, by its number among the entries.
use Rattle.bib_edit.proofs.Words.{◌≡◌, ℕ, suc, ◌≤◌, List, [], ◌∷◌, Option, Some, None, count_by, option_map, ⊎_elim, refl, sym, ◌∙◌, arith, cases_Bool, cond-true, cond-false, none-some, Text, Reading, entries_of, keys_of, entry_named, first_named, is_named, holders, count-yes, count-no, suc_some}
use Rattle.bib_edit.proofs.Words.{IsLoneNumber}

some_named : (key : Text) (keys : List Text) (n : ℕ) → first_named key keys ≡ Some n → 1 ≤ count_by (is_named key) keys
some_named key [] n e = absurd (none-some n e)
some_named key (k ∷ keys) n e = ⊎_elim
    (λ t. let more = count-yes (is_named key) k keys t in omega (arith, more))
    (λ t.
    let later = suc_some (first_named key keys) n (sym (cond-false (is_named key k) (Some 0) (option_map suc (first_named key keys)) t) ∙ e) in
    let rest = some_named key keys later.0 later.1 in let less = count-no (is_named key) k keys t in omega (arith, rest, less))
    (cases_Bool (is_named key k))

none_named : (key : Text) (keys : List Text) → first_named key keys ≡ None → count_by (is_named key) keys ≡ 0
none_named key [] e = refl
none_named key (k ∷ keys) e = ⊎_elim
    (λ t. absurd (none-some 0 (sym e ∙ cond-true (is_named key k) (Some 0) (option_map suc (first_named key keys)) t)))
    (λ t. count-no (is_named key) k keys t ∙ none_named key keys (none_beyond (first_named key keys) (sym (cond-false (is_named key k) (Some 0) (option_map suc (first_named key keys)) t) ∙ e)))
    (cases_Bool (is_named key k))
  where
    none_beyond : (o : Option ℕ) → option_map suc o ≡ None → o ≡ None
    none_beyond None e = refl
    none_beyond (Some n) e = absurd (none-some (suc n) (sym e))

pub lone-number : (key : Text) (db : Reading) (n : ℕ) → entry_named (entries_of db) key ≡ Some n → holders key db ≤ 1 → IsLoneNumber key db n
lone-number key db n named few =
    let some : 1 ≤ holders key db = some_named key (keys_of (entries_of db)) n named in
    record { named = named; once = omega (arith, some, few) }

pub no-number : (key : Text) (db : Reading) → entry_named (entries_of db) key ≡ None → holders key db ≡ 0
no-number key db none = none_named key (keys_of (entries_of db)) none
