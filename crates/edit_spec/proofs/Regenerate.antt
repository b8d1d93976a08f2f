-- RegenerateKeys: the made keys meet the conditions of the law of new keys, they differ, and making them again changes
-- nothing.
use Rattle.edit_spec.proofs.Words.{◌≡◌, ◌<◌, ℕ, zero, suc, ◌+◌, Bool, true, false, cond, ◌≤◌, List, ◌∷◌, ◌++◌, Option, Some, None, is_some, is_none, unwrap_or, option_and_then, slice_get, length, filter_map, map, reverse, ⊎_elim, refl, sym, ◌∙◌, ap, ap₂, subst, arith, add-one, add-zero, zero-add}
use Rattle.edit_spec.proofs.Words.{list_all, enumerate_from, cons_option, AllByRecursion, cases_Bool, cond-true, cond-false, false≢true, or_parts, and_from, and_parts, none-some, same_Some, file_limit, Text, same, is_new_key_byte, Value, Row, Entry, Tree, CommentTree, DefinitionTree, PreambleTree}
use Rattle.edit_spec.proofs.Words.{EntryTree, Item, Reading, bytes_of, months, is_empty, too_long_at, EntryTexts, Record, entries_of, keys_of, crossref, crossref_text, target_of, target, record_of, dangling_text, dangling_texts, letters, candidate, is_taken, free_key, made_keys, bases, new_keys}
use Rattle.edit_spec.proofs.Words.{IsKeyBase, row_to, with_value, in_braces, with_crossref, next_number, tree_with_keys, items_with_keys, regenerate_keys, RegenerateKeys, BadKey, BadName, BadValue, BadPosition, NotFound, Ambiguous, KeyInUse, NameInUse, Referred, WouldMerge, FileTooLong, TextTooLong}
use Rattle.edit_spec.proofs.Words.{IsAccepted, Refuses, record_with_key, same_comm, option_cases, keys_with, key_before, dangling_among, free_key_free, lower_letters, new_key_byte-lower, reverse-cons}
use Rattle.std.proofs.Common.{[]}
use Rattle.std.proofs.lemmas.Option.{slice_get_past}
use Rattle.edit_spec.specs.Edits.{EditFault}
use Rattle.edit_spec.specs.Laws.{AllDiffer, regenerate_keys_keeps, made_keys_differ, regenerating_again_changes_nothing}
use Rattle.edit_spec.proofs.Fields.{crossref_to}
use Rattle.edit_spec.proofs.Rekeyed.{entry_with, entries_with, entries_rekeyed, keys-entries_with, CanRekey, rekeyed, target_of_kept, target_kept, record_kept}
use Rattle.edit_spec.proofs.CitedLists.{rekeying_keeps}
use Rattle.edit_spec.proofs.RenameKey.{field_text-key, new_key_parts}
use Rattle.edit_spec.proofs.OneMore.{length-keys}

slice_get_none : {X : Type 0} (xs : List X) (n : ℕ) → slice_get xs n ≡ None → length xs ≤ n
slice_get_none [] n e = omega arith
slice_get_none (x ∷ xs) zero e = absurd (none-some x (sym e))
slice_get_none (x ∷ xs) (suc n) e = let h = slice_get_none xs n e in omega arith

free-is : (taken : List Text) (base : Text) → free_key taken base ≡ (free_key_free taken base).key
free-is taken base = ap (λ o. unwrap_or o base) (free_key_free taken base).is

free-untaken : (taken : List Text) (base : Text) → is_taken taken (free_key taken base) ≡ false
free-untaken taken base = ap (is_taken taken) (free-is taken base) ∙ (free_key_free taken base).free

-- a made key is none of the keys taken before it
made_untaken : (taken bs : List Text) (n : ℕ) (key : Text) → slice_get (made_keys taken bs) n ≡ Some key → is_taken taken key ≡ false
made_untaken taken [] n key e = absurd (none-some key e)
made_untaken taken (base ∷ bs) zero key e = ap (is_taken taken) (sym (same_Some (free_key taken base) key e)) ∙ free-untaken taken base
made_untaken taken (base ∷ bs) (suc n) key e = (or_parts (same key (free_key taken base)) (is_taken taken key) (made_untaken (free_key taken base ∷ taken) bs n key e)).1

made_differ : (taken bs : List Text) → AllDiffer (made_keys taken bs)
made_differ taken [] n m a b p q ne = absurd (none-some a p)
made_differ taken (base ∷ bs) zero zero a b p q ne = absurd (ne refl)
made_differ taken (base ∷ bs) zero (suc m) a b p q ne =
    same_comm a b ∙ ap (same b) (sym (same_Some (free_key taken base) a p)) ∙ (or_parts (same b (free_key taken base)) (is_taken taken b) (made_untaken (free_key taken base ∷ taken) bs m b q)).0
made_differ taken (base ∷ bs) (suc n) zero a b p q ne =
    ap (same a) (sym (same_Some (free_key taken base) b q)) ∙ (or_parts (same a (free_key taken base)) (is_taken taken a) (made_untaken (free_key taken base ∷ taken) bs n a p)).0
made_differ taken (base ∷ bs) (suc n) (suc m) a b p q ne = made_differ (free_key taken base ∷ taken) bs n m a b p q (λ e. ne (ap suc e))

-- each made key is a candidate of its base
made_from : (taken bs : List Text) (n : ℕ) (key : Text) → slice_get (made_keys taken bs) n ≡ Some key → (base : Text) × (number : ℕ) × (slice_get bs n ≡ Some base) × (key ≡ candidate base number)
made_from taken [] n key e = absurd (none-some key e)
made_from taken (base ∷ bs) zero key e = (base, (free_key_free taken base).number, refl, sym (same_Some (free_key taken base) key e) ∙ free-is taken base ∙ (free_key_free taken base).made)
made_from taken (base ∷ bs) (suc n) key e = made_from (free_key taken base ∷ taken) bs n key e

length-made : (taken bs : List Text) → length (made_keys taken bs) ≡ length bs
length-made taken [] = refl
length-made taken (base ∷ bs) = ap suc (length-made (free_key taken base ∷ taken) bs)

length-bases : (key_base : Record → Text) (depth : ℕ) (entries : List EntryTexts) (n : ℕ) (rest : List EntryTexts) → length (map (λ p. key_base (record_of depth entries p.0 p.1)) (enumerate_from n rest)) ≡ length rest
length-bases key_base depth entries n [] = refl
length-bases key_base depth entries n (entry ∷ rest) = ap suc (length-bases key_base depth entries (n + 1) rest)

base_is : (key_base : Record → Text) (depth : ℕ) (entries : List EntryTexts) (n : ℕ) (rest : List EntryTexts) (j : ℕ) (base : Text) →
    slice_get (map (λ p. key_base (record_of depth entries p.0 p.1)) (enumerate_from n rest)) j ≡ Some base → (r : Record) × (base ≡ key_base r)
base_is key_base depth entries n [] j base e = absurd (none-some base e)
base_is key_base depth entries n (entry ∷ rest) zero base e = (record_of depth entries n entry, sym (same_Some (key_base (record_of depth entries n entry)) base e))
base_is key_base depth entries n (entry ∷ rest) (suc j) base e = base_is key_base depth entries (n + 1) rest j base e

-- a candidate of a fit base is a key
list_all-append : (p : ℕ → Bool) (xs ys : List ℕ) → list_all p xs ≡ true → list_all p ys ≡ true → list_all p (xs ++ ys) ≡ true
list_all-append p [] ys h k = k
list_all-append p (x ∷ xs) ys h k = let both = and_parts (p x) (list_all p xs) h in and_from (p x) (list_all p (xs ++ ys)) both.0 (list_all-append p xs ys both.1 k)

nonempty-append : (xs ys : Text) → is_empty xs ≡ false → is_empty (xs ++ ys) ≡ false
nonempty-append [] ys h = absurd (false≢true (sym h))
nonempty-append (x ∷ xs) ys h = refl

list_all-reverse : (p : ℕ → Bool) (xs : List ℕ) → list_all p xs ≡ true → list_all p (reverse xs) ≡ true
list_all-reverse p [] h = refl
list_all-reverse p (x ∷ xs) h =
    let both = and_parts (p x) (list_all p xs) h in
    ap (list_all p) (reverse-cons x xs) ∙ list_all-append p (reverse xs) (x ∷ []) (list_all-reverse p xs both.1) (and_from (p x) true both.0 refl)

lower_key_bytes : (cs : Text) → AllByRecursion (λ c. (97 ≤ c) × (c ≤ 122)) cs → list_all is_new_key_byte cs ≡ true
lower_key_bytes [] h = refl
lower_key_bytes (c ∷ cs) h = and_from (is_new_key_byte c) (list_all is_new_key_byte cs) (new_key_byte-lower c h.0.0 h.0.1) (lower_key_bytes cs h.1)

candidate_bytes : (base : Text) (n : ℕ) → list_all is_new_key_byte base ≡ true → list_all is_new_key_byte (candidate base n) ≡ true
candidate_bytes base n h = list_all-append is_new_key_byte base (reverse (letters n)) h (list_all-reverse is_new_key_byte (letters n) (lower_key_bytes (letters n) (lower_letters n)))

module _ (key_base : Record → Text) (fit : IsKeyBase key_base) (depth : ℕ) (entries : List EntryTexts) where
  made_base : (n : ℕ) (key : Text) → slice_get (new_keys key_base depth entries) n ≡ Some key → (r : Record) × (number : ℕ) × (key ≡ candidate (key_base r) number)
  made_base n key e =
      let from = made_from (dangling_texts entries) (bases key_base depth entries) n key e in
      let is = base_is key_base depth entries 0 entries n from.0 from.2 in
      (is.0, from.1, from.3 ∙ ap (λ b. candidate b from.1) is.1)

  -- there is a made key for each entry
  pub length-new : length (new_keys key_base depth entries) ≡ length entries
  length-new = length-made (dangling_texts entries) (bases key_base depth entries) ∙ length-bases key_base depth entries 0 entries

  -- every entry gets its made key
  keys_new : (m : ℕ) (other : Text) → slice_get (keys_with (slice_get (new_keys key_base depth entries)) 0 (keys_of entries)) m ≡ Some other → slice_get (new_keys key_base depth entries) m ≡ Some other
  keys_new m other s =
      let was = key_before (slice_get (new_keys key_base depth entries)) (keys_of entries) m other s in
      ⊎_elim
      (λ none. absurd (none-some was.0 (sym (slice_get_past (keys_of entries) m (short m none)) ∙ was.1)))
      (λ some. some.1 ∙ ap Some (sym (was.2 ∙ ap (λ o. unwrap_or o was.0) some.1)))
      (option_cases (slice_get (new_keys key_base depth entries) m))
    where
      short : (m : ℕ) → slice_get (new_keys key_base depth entries) m ≡ None → length (keys_of entries) ≤ m
      short m none = let a = slice_get_none (new_keys key_base depth entries) m none in let b = length-new in let c = length-keys entries in omega (arith, a, b, c)

  pub can_regenerate : CanRekey (slice_get (new_keys key_base depth entries)) entries
  can_regenerate = record {
    fresh = record {
      nonempty = λ n key e. let from = made_base n key e in ap is_empty from.2 ∙ nonempty-append (key_base from.0) (reverse (letters from.1)) (new_key_parts (key_base from.0) (fit.is_key from.0)).0;
      apart = λ n m key other e ne s. made_differ (dangling_texts entries) (bases key_base depth entries) m n other key (keys_new m other s) e ne;
    };
    unspaced = λ n key e. let from = made_base n key e in field_text-key key (ap (list_all is_new_key_byte) from.2 ∙ candidate_bytes (key_base from.0) from.1 (new_key_parts (key_base from.0) (fit.is_key from.0)).1);
    undangled = λ n key e j entry said at no_target says. dangling_among entries entries j entry said key at no_target says (made_untaken (dangling_texts entries) (bases key_base depth entries) n key e);
  }

  pub all_differ : AllDiffer (keys_of (rekeyed (slice_get (new_keys key_base depth entries)) entries can_regenerate))
  all_differ n m a b p q ne = made_differ (dangling_texts entries) (bases key_base depth entries) n m a b
      (keys_new n a (ap (λ l. slice_get l n) (sym (keys-entries_with entries (slice_get (new_keys key_base depth entries)) 0 entries)) ∙ p))
      (keys_new m b (ap (λ l. slice_get l m) (sym (keys-entries_with entries (slice_get (new_keys key_base depth entries)) 0 entries)) ∙ q)) ne

  -- Once more: the bases, the dangling texts and so the made keys are what they were.

  abbrev pub new : ℕ → Option Text
  new = slice_get (new_keys key_base depth entries)

  abbrev pub after : List EntryTexts
  after = rekeyed (slice_get (new_keys key_base depth entries)) entries can_regenerate

  base_kept : (n : ℕ) (entry : EntryTexts) → key_base (record_of depth after n (entry_with entries new n entry)) ≡ key_base (record_of depth entries n entry)
  base_kept n entry = ap key_base (record_kept new entries can_regenerate depth n entry) ∙ ⊎_elim
      (λ none. ap (λ o. key_base (record_with_key o (record_of depth entries n entry))) none)
      (λ some. ap (λ o. key_base (record_with_key o (record_of depth entries n entry))) some.1 ∙ fit.ignores_key (record_of depth entries n entry) some.0)
      (option_cases (new n))

  bases_kept : (n : ℕ) (rest : List EntryTexts) → map (λ p. key_base (record_of depth after p.0 p.1)) (enumerate_from n (entries_with entries new n rest)) ≡ map (λ p. key_base (record_of depth entries p.0 p.1)) (enumerate_from n rest)
  bases_kept n [] = refl
  bases_kept n (entry ∷ rest) = ap₂ ◌∷◌ (base_kept n entry)
      (ap (λ k. map (λ p. key_base (record_of depth after p.0 p.1)) (enumerate_from k (entries_with entries new (suc n) rest))) (add-one n)
      ∙ bases_kept (suc n) rest
      ∙ sym (ap (λ k. map (λ p. key_base (record_of depth entries p.0 p.1)) (enumerate_from k rest)) (add-one n)))

  -- the list is the entries from number n on
  abbrev StandsFrom : ℕ → List EntryTexts → Type 0
  StandsFrom n rest = (k : ℕ) (entry : EntryTexts) → slice_get rest k ≡ Some entry → slice_get entries (n + k) ≡ Some entry

  stands_next : (n : ℕ) (entry : EntryTexts) (rest : List EntryTexts) → StandsFrom n (entry ∷ rest) → StandsFrom (suc n) rest
  stands_next n entry rest h k s at = let e : suc n + k ≡ n + suc k = omega arith in ap (slice_get entries) e ∙ h (suc k) s at

  dangling_text_kept : (n : ℕ) (entry : EntryTexts) → slice_get entries n ≡ Some entry → dangling_text after (entry_with entries new n entry) ≡ dangling_text entries entry
  dangling_text_kept n entry at =
      let same_target : target_of after (entry_with entries new n entry) ≡ target_of entries entry = target_of_kept new entries can_regenerate n entry at in
      ⊎_elim
      (λ none. ap₂ (λ t c. cond (is_none t) c None) (same_target ∙ none)
      (ap (λ t. crossref_text (record entry { key = unwrap_or (new n) entry.key; fields = crossref_to (option_and_then new t) entry.fields })) (ap (option_and_then (target_of entries)) at ∙ none))
      ∙ sym (ap (λ t. cond (is_none t) (crossref_text entry) None) none))
      (λ some. ap (λ t. cond (is_none t) (crossref_text (entry_with entries new n entry)) None) (same_target ∙ some.1)
      ∙ sym (ap (λ t. cond (is_none t) (crossref_text entry) None) some.1))
      (option_cases (target_of entries entry))

  dangling_kept : (n : ℕ) (rest : List EntryTexts) → StandsFrom n rest → filter_map (dangling_text after) (entries_with entries new n rest) ≡ filter_map (dangling_text entries) rest
  dangling_kept n [] h = refl
  dangling_kept n (entry ∷ rest) h = ap₂ cons_option (dangling_text_kept n entry (ap (slice_get entries) (sym (add-zero n)) ∙ h zero entry refl)) (dangling_kept (suc n) rest (stands_next n entry rest h))

  pub new_kept : new_keys key_base depth after ≡ new_keys key_base depth entries
  new_kept = ap₂ made_keys (dangling_kept zero entries (λ k entry at. ap (slice_get entries) (zero-add k) ∙ at)) (bases_kept zero entries)

  -- Once more: the items are what they were.

  value_again : (name : Text) (value : Value) (rows : List Row) → with_value name value (with_value name value rows) ≡ with_value name value rows
  value_again name value [] = refl
  value_again name value (row ∷ rows) = ⊎_elim
      (λ e. ap (with_value name value) (cond-true (same row.assignment.name name) (row_to value row ∷ rows) (row ∷ with_value name value rows) e)
      ∙ cond-true (same row.assignment.name name) (row_to value row ∷ rows) (row_to value row ∷ with_value name value rows) e
      ∙ sym (cond-true (same row.assignment.name name) (row_to value row ∷ rows) (row ∷ with_value name value rows) e))
      (λ e. ap (with_value name value) (cond-false (same row.assignment.name name) (row_to value row ∷ rows) (row ∷ with_value name value rows) e)
      ∙ cond-false (same row.assignment.name name) (row_to value row ∷ with_value name value rows) (row ∷ with_value name value (with_value name value rows)) e
      ∙ ap (λ l. row ∷ l) (value_again name value rows)
      ∙ sym (cond-false (same row.assignment.name name) (row_to value row ∷ rows) (row ∷ with_value name value rows) e))
      (cases_Bool (same row.assignment.name name))

  crossref_again : (o : Option Text) (rows : List Row) → with_crossref o (with_crossref o rows) ≡ with_crossref o rows
  crossref_again None rows = refl
  crossref_again (Some key) rows = value_again crossref (in_braces key) rows

  key_again : (o : Option Text) (key : Text) → unwrap_or o (unwrap_or o key) ≡ unwrap_or o key
  key_again None key = refl
  key_again (Some new_key) key = refl

  tree_again : (n : ℕ) (tree : Tree) → tree_with_keys new after n (tree_with_keys new entries n tree) ≡ tree_with_keys new entries n tree
  tree_again n (CommentTree h) = refl
  tree_again n (PreambleTree p) = refl
  tree_again n (DefinitionTree d) = refl
  tree_again n (EntryTree e) = ap EntryTree (ap₂ (λ key rows. let it : Entry = record e { key = key; rows = rows } in it)
      (key_again (new n) e.key)
      (ap (λ t. with_crossref (option_and_then new t) (with_crossref (option_and_then new (target entries n)) e.rows)) (target_kept new entries can_regenerate n) ∙ crossref_again (option_and_then new (target entries n)) e.rows))

  number_again : (n k : ℕ) (tree : Tree) → next_number k (tree_with_keys new entries n tree) ≡ next_number k tree
  number_again n k (CommentTree h) = refl
  number_again n k (PreambleTree p) = refl
  number_again n k (DefinitionTree d) = refl
  number_again n k (EntryTree e) = refl

  pub items_again : (n : ℕ) (items : List Item) → items_with_keys new after n (items_with_keys new entries n items) ≡ items_with_keys new entries n items
  items_again n [] = refl
  items_again n (item ∷ items) = ap₂ ◌∷◌
      (ap (λ t. let it : Item = record item { tree = t } in it) (tree_again n item.tree))
      (ap (λ k. items_with_keys new after k (items_with_keys new entries (next_number n item.tree) items)) (number_again n n item.tree) ∙ items_again (next_number n item.tree) items)

module _ (key_base : Record → Text) (fit : IsKeyBase key_base) (db : Reading) (depth : ℕ) where
  abbrev made : List EntryTexts
  made = after key_base fit depth (entries_of db)

  entries_made : entries_of (regenerate_keys key_base depth db) ≡ after key_base fit depth (entries_of db)
  entries_made = entries_rekeyed (entries_of db) (slice_get (new_keys key_base depth (entries_of db))) db.items months 0

  pub regenerated_again : regenerate_keys key_base depth (regenerate_keys key_base depth db) ≡ regenerate_keys key_base depth db
  regenerated_again =
      ap (λ s. let it : Reading = record { front = db.front; items = items_with_keys (slice_get (new_keys key_base depth s)) s 0 (regenerate_keys key_base depth db).items } in it) entries_made
      ∙ ap (λ keys. let it : Reading = record { front = db.front; items = items_with_keys (slice_get keys) (after key_base fit depth (entries_of db)) 0 (regenerate_keys key_base depth db).items } in it) (new_kept key_base fit depth (entries_of db))
      ∙ ap (λ items. let it : Reading = record { front = db.front; items = items } in it) (items_again key_base fit depth (entries_of db) 0 db.items)

  -- only the limits could refuse the second edit, and its result is that of the first
  again_accepted : IsAccepted key_base db (RegenerateKeys depth) → (fault : EditFault) → Refuses key_base fault (regenerate_keys key_base depth db) (RegenerateKeys depth) → ⊥
  again_accepted accepted BadKey h = accepted BadKey h
  again_accepted accepted BadName h = accepted BadName h
  again_accepted accepted BadValue h = accepted BadValue h
  again_accepted accepted BadPosition h = accepted BadPosition h
  again_accepted accepted NotFound h = accepted NotFound h
  again_accepted accepted Ambiguous h = accepted Ambiguous h
  again_accepted accepted KeyInUse h = accepted KeyInUse h
  again_accepted accepted NameInUse h = accepted NameInUse h
  again_accepted accepted Referred h = accepted Referred h
  again_accepted accepted WouldMerge h = accepted WouldMerge h
  again_accepted accepted FileTooLong h = accepted FileTooLong (subst (λ (new : Reading). file_limit < length (bytes_of new)) regenerated_again h)
  again_accepted accepted TextTooLong h = accepted TextTooLong (ap (λ new. is_some (too_long_at new)) (sym regenerated_again) ∙ h)

  differ : AllDiffer (keys_of (entries_of (regenerate_keys key_base depth db)))
  differ n m a b p q ne = all_differ key_base fit depth (entries_of db) n m a b (ap (λ s. slice_get (keys_of s) n) (sym entries_made) ∙ p) (ap (λ s. slice_get (keys_of s) m) (sym entries_made) ∙ q) ne

pub regenerate-keys-keeps : regenerate_keys_keeps
regenerate-keys-keeps key_base fit db depth accepted = rekeying_keeps (slice_get (new_keys key_base depth (entries_of db))) db (can_regenerate key_base fit depth (entries_of db))

pub made-keys-differ : made_keys_differ
made-keys-differ key_base fit db depth accepted = differ key_base fit db depth

pub regenerating-again : regenerating_again_changes_nothing
regenerating-again key_base fit db depth accepted = (again_accepted key_base fit db depth accepted, regenerated_again key_base fit db depth)
