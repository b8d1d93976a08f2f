-- What the entries' new keys cite.
use Rattle.edit_spec.proofs.Words.{◌≡◌, ℕ, ◌+◌, true, false, cond, not, ◌&&◌, ◌==◌, nat_le, List, ◌∷◌, ◌++◌, Option, Some, is_some, is_none, unwrap_or, option_and_then, slice_get, ⊎_elim, refl, sym, ◌∙◌, ap, ap₂, subst, map, filter, filter_map, count_by, length, list_any, list_all, enumerate_from}
use Rattle.edit_spec.proofs.Words.{cons_option, option_map_or, fun_ext, cases_Bool, cond-true, cond-false, false≢true, and_parts, Text, folded, same, Reading, months, is_empty, EntryTexts, entries_of, keys_of, first_named, entry_named, parent, expanded, listed, unknown, with_keys, KeepsEntries}
use Rattle.edit_spec.proofs.Words.{same-true, IsFirst, first_is, option_cases, keys_with, first_kept, first_new}
use Rattle.std.proofs.Common.{[]}
use Rattle.std.specs.List.{range_with_len}
use Rattle.bib_spec.specs.Records.{once, numbers_of, cited_by_key, with_parents, cites_all}
use Rattle.edit_spec.specs.Laws.{renamed_key, KeepsMacros, KeepsCitationsByKey}
use Rattle.bib_spec.proofs.Places.{first_named_same}
use Rattle.bib_spec.proofs.Keys.{key_at}
use Rattle.edit_spec.proofs.Rekeyed.{length-entries_with, entries_rekeyed, preambles_rekeyed, macros_rekeyed, keys-entries_with, CanRekey, rekeyed, parent_kept, expanded_kept}

-- the listed entries and their parents, from each entry's parent and all numbers
abbrev added : (ℕ → Option ℕ) → List ℕ → ℕ → List ℕ → List ℕ
added parents numbers min listed =
    listed ++ filter (λ m. not (list_any (λ n. n == m) listed) && nat_le min (count_by (λ n. option_map_or (λ p. p == m) (parents n) false) listed)) numbers

module _ (new : ℕ → Option Text) (entries : List EntryTexts) (can : CanRekey new entries) where
  abbrev after : List EntryTexts
  after = rekeyed new entries can

  numbers-rekeyed : numbers_of (rekeyed new entries can) ≡ numbers_of entries
  numbers-rekeyed = ap (range_with_len 0) (length-entries_with entries new 0 entries)

  new_key_named : (text : Text) (m : ℕ) → first_named text (keys_of entries) ≡ Some m →
      first_named (renamed_key entries (rekeyed new entries can) text) (keys_of (rekeyed new entries can)) ≡ Some m
  new_key_named text m e = ap (first_named (renamed_key entries (rekeyed new entries can) text)) (keys-entries_with entries new 0 entries)
      ∙ ap (λ k. first_named k (keys_with new 0 (keys_of entries))) is
      ∙ ⊎_elim
      (λ stays. ap (λ o. first_named (unwrap_or o first.key) (keys_with new 0 (keys_of entries))) stays
      ∙ first_kept new (keys_of entries) can.fresh first.key m (first_named_same first.key text (keys_of entries) (same-true first.key text (and_parts (not (is_empty first.key)) (same first.key text) first.named).1) ∙ e) stays)
      (λ gets. ap (λ o. first_named (unwrap_or o first.key) (keys_with new 0 (keys_of entries))) gets.1 ∙ first_new new (keys_of entries) can.fresh text m gets.0 e gets.1)
      (option_cases (new m))
    where
      first : IsFirst text (keys_of entries) m
      first = first_is text (keys_of entries) m e

      is : renamed_key entries (rekeyed new entries can) text ≡ unwrap_or (new m) first.key
      is = ap (λ o. unwrap_or (option_and_then (slice_get (keys_of (rekeyed new entries can))) o) text) e
          ∙ ap (λ keys. unwrap_or (slice_get keys m) text) (keys-entries_with entries new 0 entries)
          ∙ ap (λ o. unwrap_or o text) (key_at new (keys_of entries) m first.key first.stands)

  abbrev find_entries : List Text → Type 0
  find_entries keys = list_all (λ key. is_some (entry_named entries key)) keys ≡ true

  abbrev renamed : List Text → List Text
  renamed keys = map (renamed_key entries (rekeyed new entries can)) keys

  key_found : (key : Text) → is_some (entry_named entries key) ≡ true →
      (m : ℕ) × (entry_named entries key ≡ Some m) × (entry_named (rekeyed new entries can) (renamed_key entries (rekeyed new entries can) key) ≡ Some m)
  key_found key h = ⊎_elim
      (λ none. absurd (false≢true (sym (ap is_some none) ∙ h)))
      (λ some. (some.0, some.1, new_key_named key some.0 some.1))
      (option_cases (entry_named entries key))

  named_alike : (keys : List Text) → find_entries keys → filter_map (entry_named (rekeyed new entries can)) (renamed keys) ≡ filter_map (entry_named entries) keys
  named_alike [] h = refl
  named_alike (key ∷ keys) h =
      let both = and_parts (is_some (entry_named entries key)) (list_all (λ key. is_some (entry_named entries key)) keys) h in
      let found = key_found key both.0 in
      ap₂ cons_option (found.2 ∙ sym found.1) (named_alike keys both.1)

  none_unknown : (keys : List Text) (k : ℕ) → find_entries keys → filter (λ p. is_none (entry_named (rekeyed new entries can) p.1)) (enumerate_from k (renamed keys)) ≡ []
  none_unknown [] k h = refl
  none_unknown (key ∷ keys) k h =
      let both = and_parts (is_some (entry_named entries key)) (list_all (λ key. is_some (entry_named entries key)) keys) h in
      let found = key_found key both.0 in
      ap (λ o. cond (is_none o) ((k, renamed_key entries (rekeyed new entries can) key) ∷ more keys k) (more keys k)) found.2 ∙ none_unknown keys (k + 1) both.1
    where
      more : List Text → ℕ → List (ℕ × Text)
      more keys k = filter (λ p. is_none (entry_named (rekeyed new entries can) p.1)) (enumerate_from (k + 1) (renamed keys))

  pub unknown_kept : (keys : List Text) → find_entries keys → unknown (rekeyed new entries can) (renamed keys) ≡ []
  unknown_kept keys h = ⊎_elim
      (λ e. cond-true (cites_all (renamed keys)) [] (places (renamed keys)) e)
      (λ e. cond-false (cites_all (renamed keys)) [] (places (renamed keys)) e ∙ ap (map (λ p. p.0)) (none_unknown keys 0 h))
      (cases_Bool (cites_all (renamed keys)))
    where
      places : List Text → List ℕ
      places keys = map (λ p. p.0) (filter (λ p. is_none (entry_named (rekeyed new entries can) p.1)) (enumerate_from 0 keys))

  with_parents_kept : (min : ℕ) (cited : List ℕ) → with_parents (rekeyed new entries can) min cited ≡ with_parents entries min cited
  with_parents_kept min cited = ap₂ (λ parents numbers. added parents numbers min cited) (fun_ext (parent_kept new entries can)) numbers-rekeyed

  pub listed_kept : (keys : List Text) (min : ℕ) → find_entries keys → cites_all keys ≡ false → cites_all (renamed keys) ≡ false →
      listed (rekeyed new entries can) (renamed keys) min ≡ listed entries keys min
  listed_kept keys min found plain plain' =
      cond-false (cites_all (renamed keys)) (numbers_of (rekeyed new entries can)) (with_parents (rekeyed new entries can) min (cited_by_key (rekeyed new entries can) (renamed keys))) plain'
      ∙ with_parents_kept min (cited_by_key (rekeyed new entries can) (renamed keys))
      ∙ ap (λ l. with_parents entries min (once l)) (named_alike keys found)
      ∙ sym (cond-false (cites_all keys) (numbers_of entries) (with_parents entries min (cited_by_key entries keys)) plain)

  pub all_kept : (keys : List Text) (min : ℕ) → cites_all keys ≡ true → listed (rekeyed new entries can) keys min ≡ listed entries keys min
  all_kept keys min e =
      cond-true (cites_all keys) (numbers_of (rekeyed new entries can)) (with_parents (rekeyed new entries can) min (cited_by_key (rekeyed new entries can) keys)) e
      ∙ numbers-rekeyed
      ∙ sym (cond-true (cites_all keys) (numbers_of entries) (with_parents entries min (cited_by_key entries keys)) e)

-- the law of all edits of keys
pub rekeying_keeps : (new : ℕ → Option Text) (db : Reading) → CanRekey new (entries_of db) →
    KeepsEntries new db (with_keys new db) × KeepsMacros db (with_keys new db) × KeepsCitationsByKey db (with_keys new db)
rekeying_keeps new db can = (
  record {
    count = ap length is ∙ length-entries_with (entries_of db) new 0 (entries_of db);
    records = λ depth n. ap (λ s. expanded depth s n) is ∙ expanded_kept new (entries_of db) can depth n;
    parents = λ n. ap (λ s. parent s n) is ∙ parent_kept new (entries_of db) can n;
    preambles = preambles_rekeyed (entries_of db) new db.items months 0;
  },
  (λ n name. ap (λ m. m (folded name)) (macros_rekeyed (entries_of db) new db.items months 0 n)),
  record {
    cited = λ keys min found plain.
        let P : List EntryTexts → Type 0 = λ s. cites_all (map (renamed_key (entries_of db) s) keys) ≡ false → listed s (map (renamed_key (entries_of db) s) keys) min ≡ listed (entries_of db) keys min in
        subst P (sym is) (listed_kept new (entries_of db) can keys min found plain);
    unknowns = λ keys found.
        let P : List EntryTexts → Type 0 = λ s. unknown s (map (renamed_key (entries_of db) s) keys) ≡ [] in
        subst P (sym is) (unknown_kept new (entries_of db) can keys found);
    all = λ keys min e. ap (λ s. listed s keys min) is ∙ all_kept new (entries_of db) can keys min e;
  },
)
  where
    is : entries_of (with_keys new db) ≡ rekeyed new (entries_of db) can
    is = entries_rekeyed (entries_of db) new db.items months 0
