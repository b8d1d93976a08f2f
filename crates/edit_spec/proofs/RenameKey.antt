-- RenameKey: the new key meets the conditions of the law of new keys.
use Rattle.edit_spec.proofs.Words.{◌≡◌, ◌≢◌, ℕ, zero, suc, Bool, true, false, not, ◌&&◌, ◌||◌, ◌==◌, nat_lt, nat_le, List, ◌∷◌, Some, None, unwrap_or, option_map, slice_get, length, ⊎_elim, refl, sym, ◌∙◌, ap, ap₂, count_by, filter, arith, list_any, list_all, cases_Bool, cond-true, cond-false}
use Rattle.edit_spec.proofs.Words.{false_from_ne_true, true_from_ne_false, both_ways, and_parts, and_cases, or_parts, not-false, same_Some, none-some, cond_some, name_limit, Text, same, is_space, is_new_key_byte, is_new_key, Reading, is_empty, field_text, EntryTexts, Record, entries_of, keys_of}
use Rattle.edit_spec.proofs.Words.{first_named, is_named, dangling_texts, BadKey, NotFound, Ambiguous, KeyInUse, RenameKey, IsAccepted, key_for, same_comm, there_once, dangling_among, count-yes, count-no, none_at, keys_with, key_before, new_key_byte-plain}
use Rattle.std.proofs.Common.{[], eqb-true, ne_eqb}
use Rattle.std.specs.List.{join_with_byte}
use Rattle.bib_spec.specs.Texts.{onto_first, words}
use Rattle.edit_spec.specs.Laws.{rename_key_keeps}
use Rattle.edit_spec.proofs.Rekeyed.{CanRekey}
use Rattle.edit_spec.proofs.CitedLists.{rekeying_keeps}

-- A key is its own field text.

words-key : (key : Text) → list_all is_new_key_byte key ≡ true → words key ≡ key ∷ []
words-key [] h = refl
words-key (b ∷ bs) h =
    let both = and_parts (is_new_key_byte b) (list_all is_new_key_byte bs) h in
    cond-false (is_space b) ([] ∷ words bs) (onto_first b (words bs)) (new_key_byte-plain b both.0) ∙ ap (onto_first b) (words-key bs both.1)

pub field_text-key : (key : Text) → list_all is_new_key_byte key ≡ true → field_text key ≡ key
unfolding field_text
field_text-key [] h = refl
field_text-key (b ∷ bs) h = ap (λ words. join_with_byte 32 (filter (λ word. not (is_empty word)) words)) (words-key (b ∷ bs) h)

pub nonempty_length : (key : Text) → nat_lt 0 (length key) ≡ true → is_empty key ≡ false
nonempty_length [] h = absurd (both_ways (nat_lt 0 0) refl h)
nonempty_length (b ∷ key) h = refl

-- the parts of a new key: it is not empty, and made of bytes of a key
pub new_key_parts : (key : Text) → is_new_key key ≡ true → (is_empty key ≡ false) × (list_all is_new_key_byte key ≡ true)
unfolding is_new_key
new_key_parts key h =
    let outer = and_parts (nat_lt 0 (length key) && nat_le (length key) name_limit) (list_all is_new_key_byte key) h in
    (nonempty_length key (and_parts (nat_lt 0 (length key)) (nat_le (length key) name_limit) outer.0).0, outer.1)

pub uncounted : {X : Type 0} (p : X → Bool) (xs : List X) → count_by p xs ≡ 0 → (j : ℕ) (x : X) → slice_get xs j ≡ Some x → p x ≡ false
uncounted p [] h j x s = absurd (none-some x s)
uncounted p (y ∷ ys) h zero x s = ap p (sym (same_Some y x s)) ∙ false_from_ne_true (p y) (λ e. let c = count-yes p y ys e in absurd (omega (arith, c, h)))
uncounted p (y ∷ ys) h (suc j) x s = uncounted p ys (sym (count-no p y ys (false_from_ne_true (p y) (λ e. let c = count-yes p y ys e in absurd (omega (arith, c, h))))) ∙ h) j x s

-- the place of the one key that is named
pub only : (text : Text) (keys : List Text) → count_by (is_named text) keys ≡ 1 →
    (m : ℕ) × (first_named text keys ≡ Some m) × ((j : ℕ) (key : Text) → slice_get keys j ≡ Some key → is_named text key ≡ true → j ≡ m)
only text [] h = absurd (omega (arith, h))
only text (k ∷ ks) h = ⊎_elim
    (λ e. (zero, cond-true (is_named text k) (Some zero) (option_map suc (first_named text ks)) e, at_head e))
    (λ e. let rest = only text ks (sym (count-no (is_named text) k ks e) ∙ h) in
    (suc rest.0, cond-false (is_named text k) (Some zero) (option_map suc (first_named text ks)) e ∙ ap (option_map suc) rest.1, after_head e rest.0 rest.2))
    (cases_Bool (is_named text k))
  where
    at_head : is_named text k ≡ true → (j : ℕ) (key : Text) → slice_get (k ∷ ks) j ≡ Some key → is_named text key ≡ true → j ≡ zero
    at_head e zero key s t = refl
    at_head e (suc j) key s t = absurd (both_ways (is_named text key) (uncounted (is_named text) ks (let c = count-yes (is_named text) k ks e in omega (arith, c, h)) j key s) t)

    after_head : is_named text k ≡ false → (m : ℕ) → ((j : ℕ) (key : Text) → slice_get ks j ≡ Some key → is_named text key ≡ true → j ≡ m) →
        (j : ℕ) (key : Text) → slice_get (k ∷ ks) j ≡ Some key → is_named text key ≡ true → j ≡ suc m
    after_head e m rest zero key s t = absurd (both_ways (is_named text key) (ap (is_named text) (sym (same_Some k key s)) ∙ e) t)
    after_head e m rest (suc j) key s t = ap suc (rest j key s t)

-- the conditions of an accepted edit that the proof uses
pub record CanRenameKey (from to : Text) (entries : List EntryTexts) : Type 0 where
  pub is_key : is_new_key to ≡ true
  pub once : count_by (is_named from) (keys_of entries) ≡ 1
  pub unused : list_any (λ key. same to key && not (is_named from key)) (keys_of entries) ≡ false
  pub undangled : list_any (same to) (dangling_texts entries) ≡ false

module _ (from to : Text) (entries : List EntryTexts) (can : CanRenameKey from to entries) where
  the_one : (m : ℕ) × (first_named from (keys_of entries) ≡ Some m) × ((j : ℕ) (key : Text) → slice_get (keys_of entries) j ≡ Some key → is_named from key ≡ true → j ≡ m)
  the_one = only from (keys_of entries) can.once

  gets : (n : ℕ) (key : Text) → key_for (first_named from (keys_of entries)) to n ≡ Some key → (the_one.0 ≡ n) × (to ≡ key)
  gets n key e =
      let at = cond_some (the_one.0 == n) to key (sym (ap (λ o. key_for o to n) the_one.1) ∙ e) in
      (eqb-true the_one.0 n at.0, at.1)

  -- every other entry keeps its key
  others_keep : (n : ℕ) → n ≢ the_one.0 → key_for (first_named from (keys_of entries)) to n ≡ None
  others_keep n ne = ap (λ o. key_for o to n) the_one.1 ∙ cond-false (the_one.0 == n) (Some to) None (ne_eqb the_one.0 n (λ e. ne (sym e)))

  apart : (n m : ℕ) (key other : Text) → key_for (first_named from (keys_of entries)) to n ≡ Some key → m ≢ n →
      slice_get (keys_with (key_for (first_named from (keys_of entries)) to) 0 (keys_of entries)) m ≡ Some other → same other key ≡ false
  apart n m key other e ne s =
      let at = gets n key e in
      let ne' : m ≢ the_one.0 = λ is. ne (is ∙ at.0) in
      let was = key_before (key_for (first_named from (keys_of entries)) to) (keys_of entries) m other s in
      let is : other ≡ was.0 = was.2 ∙ ap (λ o. unwrap_or o was.0) (others_keep m ne') in
      let both = none_at (λ key. same to key && not (is_named from key)) (keys_of entries) can.unused m was.0 was.1 in
      ap₂ same is (sym at.1) ∙ same_comm was.0 to ∙ ⊎_elim
      (λ differs. differs)
      (λ named. absurd (ne' (the_one.2 m was.0 was.1 (not-false (is_named from was.0) named))))
      (and_cases (same to was.0) (not (is_named from was.0)) both)

  pub can_rekey : CanRekey (key_for (first_named from (keys_of entries)) to) entries
  can_rekey = record {
    fresh = record { nonempty = λ n key e. ap is_empty (sym (gets n key e).1) ∙ (new_key_parts to can.is_key).0; apart = apart };
    unspaced = λ n key e. ap field_text (sym (gets n key e).1) ∙ field_text-key to (new_key_parts to can.is_key).1 ∙ (gets n key e).1;
    undangled = λ n key e j entry text s dangles says. ap (λ k. same k text) (sym (gets n key e).1) ∙ dangling_among entries entries j entry text to s dangles says can.undangled;
  }

pub can_rename_key : (key_base : Record → Text) (db : Reading) (from to : Text) → IsAccepted key_base db (RenameKey from to) → CanRenameKey from to (entries_of db)
can_rename_key key_base db from to accepted = record {
  is_key = (and_parts (is_new_key to) true (true_from_ne_false (is_new_key to && true) (accepted BadKey))).0;
  once = there_once (count_by (is_named from) (keys_of (entries_of db))) (accepted NotFound) (accepted Ambiguous);
  unused = both.0;
  undangled = both.1;
}
  where
    taken : Bool
    taken = list_any (λ key. same to key && not (is_named from key)) (keys_of (entries_of db))

    both : (list_any (λ key. same to key && not (is_named from key)) (keys_of (entries_of db)) ≡ false) × (list_any (same to) (dangling_texts (entries_of db)) ≡ false)
    both = or_parts (list_any (λ key. same to key && not (is_named from key)) (keys_of (entries_of db))) (list_any (same to) (dangling_texts (entries_of db)))
        (false_from_ne_true (list_any (λ key. same to key && not (is_named from key)) (keys_of (entries_of db)) || list_any (same to) (dangling_texts (entries_of db))) (accepted KeyInUse))

pub rename-key-keeps : rename_key_keeps
rename-key-keeps key_base db from to accepted =
    rekeying_keeps (key_for (first_named from (keys_of (entries_of db))) to) db (can_rekey from to (entries_of db) (can_rename_key key_base db from to accepted))
