-- Whether a key is taken, as the indexes of a file tell it.
use Rattle.std.proofs.Common.{◌≡◌, ◌≤◌, ℕ, suc, ◌&&◌, ◌||◌, ◌++◌, Bool, true, false, not, List, [], ◌∷◌, Option, Some, None, option_map, length, length-append, refl, sym, ◌∙◌, ap, ⊎_elim, arith}
use Rattle.std.specs.List.{list_any}
use Rattle.std.proofs.lemmas.Bool.{cases_Bool, cond-true, cond-false, and_from, both_ways}
use Rattle.std.proofs.lemmas.Option.{none-some}
use Rattle.std.proofs.lemmas.List.{length-map}
use Rattle.std.proofs.lemmas.List.Folds.{list_any-append}
use Rattle.bib_spec.specs.Text.{Text, folded, same}
use Rattle.bib_spec.specs.Texts.{is_empty}
use Rattle.bib_spec.specs.Reading.{Reading}
use Rattle.bib_spec.specs.Records.{entries_of, keys_of, dangling_texts, first_named, entry_named, is_named}
use Rattle.bib_spec.specs.MadeKeys.{is_taken}
use Rattle.bib_spec.proofs.Names.{same_comm, same-true}
use Rattle.bib_spec.proofs.Places.{suc_some}
use Rattle.bib_keys.specs.TakenKeys.{taken_in}

module _ (key : Text) (filled : is_empty key ≡ false) where
  not_empty : (a b : Text) → is_empty a ≡ false → folded a ≡ folded b → not (is_empty b) ≡ true
  not_empty [] b t e = absurd (both_ways true t refl)
  not_empty (x ∷ a) [] t e = absurd (omega (arith, ap (length {A = ℕ}) e))
  not_empty (x ∷ a) (y ∷ b) t e = refl

  -- one key: the key names it where the two are the same
  pub named-same : (k : Text) → is_named key k ≡ same key k
  named-same k = ⊎_elim
      (λ t.
      let filled_too = not_empty key k filled (same-true key k t) in
      and_from (not (is_empty k)) (same k key) filled_too (same_comm k key ∙ t) ∙ sym t)
      (λ t. ap (λ (b : Bool). not (is_empty k) && b) (same_comm k key ∙ t) ∙ never (not (is_empty k)) ∙ sym t)
      (cases_Bool (same key k))
    where
      never : (b : Bool) → (b && false) ≡ false
      never true = refl
      never false = refl

  -- a key that names one of these is one of these
  pub held : (keys : List Text) (n : ℕ) → first_named key keys ≡ Some n → list_any (same key) keys ≡ true
  held [] n e = absurd (none-some n e)
  held (k ∷ keys) n e = ⊎_elim
      (λ t. ap (λ (b : Bool). b || list_any (same key) keys) (sym (named-same k) ∙ t))
      (λ t.
      let later = suc_some (first_named key keys) n (sym (cond-false (is_named key k) (Some 0) (option_map suc (first_named key keys)) t) ∙ e) in
      ap (λ (b : Bool). b || list_any (same key) keys) (sym (named-same k) ∙ t) ∙ held keys later.0 later.1)
      (cases_Bool (is_named key k))

  suc_none : (o : Option ℕ) → option_map suc o ≡ None → o ≡ None
  suc_none None e = refl
  suc_none (Some n) e = absurd (none-some (suc n) (sym e))

  -- and one that names none of these is none of these
  pub unheld : (keys : List Text) → first_named key keys ≡ None → list_any (same key) keys ≡ false
  unheld [] e = refl
  unheld (k ∷ keys) e = ⊎_elim
      (λ t. absurd (none-some 0 (sym e ∙ cond-true (is_named key k) (Some 0) (option_map suc (first_named key keys)) t)))
      (λ t.
      let later = suc_none (first_named key keys) (sym (cond-false (is_named key k) (Some 0) (option_map suc (first_named key keys)) t) ∙ e) in
      ap (λ (b : Bool). b || list_any (same key) keys) (sym (named-same k) ∙ t) ∙ unheld keys later)
      (cases_Bool (is_named key k))

  module _ (db : Reading) (ids : List Text) where
    taken_parts : is_taken (taken_in db ids) key ≡ (list_any (same key) (keys_of (entries_of db)) || (list_any (same key) ids || list_any (same key) (dangling_texts (entries_of db))))
    taken_parts =
        list_any-append (same key) (keys_of (entries_of db)) (ids ++ dangling_texts (entries_of db))
        ∙ ap (λ (b : Bool). list_any (same key) (keys_of (entries_of db)) || b) (list_any-append (same key) ids (dangling_texts (entries_of db)))

    pub taken-held : (n : ℕ) → entry_named (entries_of db) key ≡ Some n → true ≡ is_taken (taken_in db ids) key
    taken-held n named = sym (taken_parts ∙ ap (λ (b : Bool). b || (list_any (same key) ids || list_any (same key) (dangling_texts (entries_of db)))) (held (keys_of (entries_of db)) n named))

    pub taken-unheld : entry_named (entries_of db) key ≡ None → (list_any (same key) ids || list_any (same key) (dangling_texts (entries_of db))) ≡ is_taken (taken_in db ids) key
    taken-unheld none = sym (taken_parts ∙ ap (λ (b : Bool). b || (list_any (same key) ids || list_any (same key) (dangling_texts (entries_of db)))) (unheld (keys_of (entries_of db)) none))

-- no more keys are taken than the file has entries, and others
pub few_taken : (db : Reading) (ids : List Text) (n : ℕ) → n ≤ length (entries_of db) → n ≤ length (taken_in db ids)
few_taken db ids n few =
    let long = length-append (keys_of (entries_of db)) (ids ++ dangling_texts (entries_of db)) in
    let keys = length-map (entries_of db) (λ entry. entry.key) in
    omega (arith, few, long, keys)
