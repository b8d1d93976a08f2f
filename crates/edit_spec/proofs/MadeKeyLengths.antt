-- Made keys are keys that an edit may write: the letters that fit after a base are enough for a file's entries.
use Rattle.edit_spec.proofs.Words.{◌≡◌, ℕ, zero, suc, ◌+◌, ◌≤◌, ◌<◌, nat_lt, nat_le, Bool, true, not, ◌&&◌, List, ◌∷◌, Option, Some, None, unwrap_or, length, map, find, filter_map, reverse, slice_get, ⊎_elim, refl, sym, ◌∙◌, ap, subst, arith, flat_map, list_all, enumerate_from, cons_option}
use Rattle.edit_spec.proofs.Words.{AllByRecursion, reverse-cons, cases_Bool, cond-true, cond-false, and_parts, and_from, ltb-false, none-some, same_Some, list_all-append, name_limit, file_limit, Text, is_new_key, is_new_key_byte, Tree, CommentTree, DefinitionTree, PreambleTree, EntryTree}
use Rattle.edit_spec.proofs.Words.{tree_bytes, Item, Reading, item_bytes, bytes_of, Reads, Macros, months, macros_after, gathered, EntryTexts, Record, record_of, entry_in, entries_of, dangling_text, dangling_texts, letters, candidate, is_taken, free_key, made_keys, bases, new_keys, IsKeyBase}
use Rattle.edit_spec.proofs.Words.{RegenerateKeys, next_number, items_with_keys, regenerate_keys, IsAccepted, lower_letters, free_key_free, new_key_byte-lower}
use Rattle.std.proofs.Common.{[], ltb-true, lt-ltb}
use Rattle.std.proofs.lemmas.Bool.{le-leb}
use Rattle.std.proofs.lemmas.List.{length-append, length-map, length-reverse}
use Rattle.std.proofs.lemmas.List.FromFn.{length-enumerate_from}
use Rattle.bib_spec.specs.MadeKeys.{candidates, base_limit}
use Rattle.bib_spec.proofs.FreeKeys.{AreLower, written-letters, doubled, doubled-grows, doubled-written}
use Rattle.edit_spec.proofs.RekeyedEntries.{with_keys-reads}
use Rattle.edit_spec.proofs.Unrefuted.{edited-short}

-- ---- how many letters a number takes

few_letters : (n : ℕ) → suc n < 67108864 → length (letters n) < 26
few_letters n small = ⊎_elim
    (λ t. ltb-true (length (letters n)) 26 t)
    (λ e. absurd (too_many (ltb-false (length (letters n)) 26 e)))
    (cases_Bool (nat_lt (length (letters n)) 26))
  where
    too_many : 26 ≤ length (letters n) → ⊥
    too_many le =
        let least : 67108864 ≤ doubled (length (letters n)) = doubled-grows 26 (length (letters n)) le in
        let most = doubled-written (letters n) (lower_letters n) in
        let says = written-letters n in
        omega (arith, least, most, says, small)

-- ---- candidates

lower_bytes : (cs : Text) → AreLower cs → list_all is_new_key_byte (reverse cs) ≡ true
lower_bytes [] h = refl
lower_bytes (c ∷ cs) h =
    ap (list_all is_new_key_byte) (reverse-cons c cs) ∙ list_all-append is_new_key_byte (reverse cs) (c ∷ [])
    ∙ and_from (list_all is_new_key_byte (reverse cs)) (is_new_key_byte c && true) (lower_bytes cs h.1) (and_from (is_new_key_byte c) true (new_key_byte-lower c h.0.0 h.0.1) refl)

candidate-new : (base : Text) (n : ℕ) → is_new_key base ≡ true → length base ≤ base_limit → suc n < 67108864 → is_new_key (candidate base n) ≡ true
unfolding is_new_key
candidate-new base n h short small =
    let outer = and_parts (nat_lt 0 (length base) && nat_le (length base) name_limit) (list_all is_new_key_byte base) h in
    let some = ltb-true 0 (length base) (and_parts (nat_lt 0 (length base)) (nat_le (length base) name_limit) outer.0).0 in
    let few = few_letters n small in
    let long = length-append base (reverse (letters n)) in
    let same_length = length-reverse (letters n) in
    and_from (nat_lt 0 (length (candidate base n)) && nat_le (length (candidate base n)) name_limit) (list_all is_new_key_byte (candidate base n))
    (and_from (nat_lt 0 (length (candidate base n))) (nat_le (length (candidate base n)) name_limit)
    (lt-ltb 0 (length (candidate base n)) (omega (arith, long, some)))
    (le-leb (length (candidate base n)) name_limit (omega (arith, long, same_length, few, short))))
    (list_all-append is_new_key_byte base (reverse (letters n))
    ∙ and_from (list_all is_new_key_byte base) (list_all is_new_key_byte (reverse (letters n))) outer.1 (lower_bytes (letters n) (lower_letters n)))

found_candidate : (test : Text → Bool) (base : Text) (n count : ℕ) (key : Text) → find test (candidates base n count) ≡ Some key → (j : ℕ) × (j < n + count) × (candidate base j ≡ key)
found_candidate test base n zero key e = absurd (none-some key e)
found_candidate test base n (suc count) key e = ⊎_elim
    (λ t. (n, omega arith, same_Some (candidate base n) key (sym (cond-true (test (candidate base n)) (Some (candidate base n)) (find test (candidates base (suc n) count)) t) ∙ e)))
    (λ t.
    let rest = found_candidate test base (suc n) count key (sym (cond-false (test (candidate base n)) (Some (candidate base n)) (find test (candidates base (suc n) count)) t) ∙ e) in
    let lt = rest.1 in
    (rest.0, omega (arith, lt), rest.2))
    (cases_Bool (test (candidate base n)))

-- a base of made keys
abbrev IsBase : Text → Type 0
IsBase base = (is_new_key base ≡ true) × (length base ≤ base_limit)

free_key-new : (taken : List Text) (base : Text) → IsBase base → suc (length taken) < 67108864 → is_new_key (free_key taken base) ≡ true
free_key-new taken base is small =
    let free = free_key_free taken base in
    let found = found_candidate (λ key. not (is_taken taken key)) base 0 (suc (length taken)) free.key free.is in
    let lt = found.1 in
    ap (λ o. is_new_key (unwrap_or o base)) free.is ∙ ap is_new_key (sym found.2) ∙ candidate-new base found.0 is.0 is.1 (omega (arith, lt, small))

made_keys-new : (taken bases : List Text) → AllByRecursion IsBase bases → suc (length taken + length bases) < 67108864 → (n : ℕ) (key : Text) →
    slice_get (made_keys taken bases) n ≡ Some key → is_new_key key ≡ true
made_keys-new taken [] are small n key e = absurd (none-some key e)
made_keys-new taken (base ∷ bases) are small zero key e =
    subst (λ k. is_new_key k ≡ true) (same_Some (free_key taken base) key e) (free_key-new taken base are.0 (omega (arith, small)))
made_keys-new taken (base ∷ bases) are small (suc n) key e = made_keys-new (free_key taken base ∷ taken) bases are.1 (omega (arith, small)) n key e

-- ---- how many entries a file has

few_dangling : (entries rest : List EntryTexts) → length (filter_map (dangling_text entries) rest) ≤ length rest
few_dangling entries [] = omega arith
few_dangling entries (entry ∷ rest) = more (dangling_text entries entry) (few_dangling entries rest)
  where
    more : (o : Option Text) → length (filter_map (dangling_text entries) rest) ≤ length rest → length (cons_option o (filter_map (dangling_text entries) rest)) ≤ suc (length rest)
    more None le = omega (arith, le)
    more (Some text) le = omega (arith, le)

few_entries : (m : Macros) (items : List Item) → length (gathered entry_in m items) ≤ length items
few_entries m [] = omega arith
few_entries m (item ∷ items) =
    let rest = few_entries (macros_after m item.tree) items in
    let one = entries_in item.tree in
    let long = length-append (entry_in m item.tree) (gathered entry_in (macros_after m item.tree) items) in
    omega (arith, rest, one, long)
  where
    entries_in : (tree : Tree) → length (entry_in m tree) ≤ 1
    entries_in (CommentTree h) = omega arith
    entries_in (DefinitionTree d) = omega arith
    entries_in (PreambleTree p) = omega arith
    entries_in (EntryTree e) = omega arith

tree_long : (tree : Tree) → 1 ≤ length (tree_bytes tree)
tree_long (CommentTree h) = omega arith
tree_long (DefinitionTree d) = omega arith
tree_long (PreambleTree p) = omega arith
tree_long (EntryTree e) = omega arith

few_items : (items : List Item) → length items ≤ length (flat_map item_bytes items)
few_items [] = omega arith
few_items (item ∷ items) =
    let rest = few_items items in
    let one = tree_long item.tree in
    let long = length-append (item_bytes item) (flat_map item_bytes items) in
    let body = length-append (tree_bytes item.tree) item.trail in
    omega (arith, rest, one, long, body)

length-rekeyed : (new : ℕ → Option Text) (entries : List EntryTexts) (n : ℕ) (items : List Item) → length (items_with_keys new entries n items) ≡ length items
length-rekeyed new entries n [] = refl
length-rekeyed new entries n (item ∷ items) = ap suc (length-rekeyed new entries (next_number n item.tree) items)

-- ---- regeneration

module _ (key_base : Record → Text) (fit : IsKeyBase key_base) (depth : ℕ) where
  are_bases : (entries : List EntryTexts) (ps : List (ℕ × EntryTexts)) → AllByRecursion IsBase (map (λ p. key_base (record_of depth entries p.0 p.1)) ps)
  are_bases entries [] = tt
  are_bases entries (p ∷ ps) = ((fit.is_key (record_of depth entries p.0 p.1), fit.short (record_of depth entries p.0 p.1)), are_bases entries ps)

  new_keys-new : (entries : List EntryTexts) → length entries ≤ file_limit → (n : ℕ) (key : Text) → slice_get (new_keys key_base depth entries) n ≡ Some key → is_new_key key ≡ true
  new_keys-new entries few =
      let dangling = few_dangling entries entries in
      let count : length (bases key_base depth entries) ≡ length entries = length-map (enumerate_from 0 entries) (λ p. key_base (record_of depth entries p.0 p.1)) ∙ length-enumerate_from 0 entries in
      made_keys-new (dangling_texts entries) (bases key_base depth entries) (are_bases entries (enumerate_from 0 entries)) (omega (arith, dangling, count, few))

pub regenerate_keys-reads : (key_base : Record → Text) (file : Text) (db : Reading) (depth : ℕ) → IsKeyBase key_base → Reads file db → IsAccepted key_base db (RegenerateKeys depth) →
    Reads (bytes_of (regenerate_keys key_base depth db)) (regenerate_keys key_base depth db)
regenerate_keys-reads key_base file db depth fit reads accepted =
    with_keys-reads (slice_get (new_keys key_base depth (entries_of db))) (new_keys-new key_base fit depth (entries_of db) few) file db reads
  where
    few : length (entries_of db) ≤ file_limit
    few =
        let new = regenerate_keys key_base depth db in
        let entries = few_entries months db.items in
        let same_count = length-rekeyed (slice_get (new_keys key_base depth (entries_of db))) (entries_of db) 0 db.items in
        let items = few_items new.items in
        let file = length-append new.front (flat_map item_bytes new.items) in
        let short = edited-short key_base db (RegenerateKeys depth) accepted in
        omega (arith, entries, same_count, items, file, short)
