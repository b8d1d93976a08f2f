-- The new keys of a renaming, and those of a regeneration, keep which keys are the same.
use Rattle.std.proofs.Common.{◌≡◌, ◌≢◌, ◌∙◌, ℕ, ◌==◌, true, false, not, ◌&&◌, List, [], ◌∷◌, Option, Some, None, unwrap_or, option_map, option_and_then, slice_get, ⊎_elim, refl, sym, ap, ap₂, eqb-true}
use Rattle.std.proofs.lemmas.Bool.{cases_Bool, cond-true, cond-false, eqb-false, not-false, false≢true, and_cases, false_from_ne_true}
use Rattle.std.proofs.lemmas.Option.{same_Some, none-some, slice_get-map}
use Rattle.bib_spec.specs.Text.{Text, folded, same}
use Rattle.bib_spec.specs.Texts.{is_empty}
use Rattle.bib_spec.specs.Records.{Record, EntryTexts, entries_of, keys_of, is_named, first_named, entry_named, crossref_text, target_of}
use Rattle.bib_spec.specs.MadeKeys.{new_keys, IsKeyBase}
use Rattle.bib_spec.proofs.Names.{same-true, true-same, same_comm}
use Rattle.bib_spec.proofs.Keys.{option_cases, key_at}
use Rattle.bib_spec.proofs.Places.{IsFirst, first_is, none_at, none_is}
use Rattle.edit_spec.specs.Edits.{key_for}
use Rattle.edit_spec.specs.Laws.{AllDiffer}
use Rattle.edit_spec.proofs.Rekeyed.{CanRekey, rekeyed, keys-entries_with}
use Rattle.edit_spec.proofs.RenameKey.{CanRenameKey, only, can_rekey, can_rename_key}
use Rattle.edit_spec.proofs.Regenerate.{can_regenerate, all_differ}
use Rattle.bibtex_laws.specs.RenamingLists.{NoneNamesNothing, rename_key_keeps_lists, regenerate_keys_keeps_lists}
use Rattle.bibtex_laws.proofs.RenamedEntries.{KeepsNames, rekeying_keeps_lists}

-- a text that does not name a key is not the same as the key, unless both are empty
pub unnamed : (text key : Text) → is_named text key ≡ false → (text ≡ [] → key ≢ []) → same text key ≡ false
unnamed [] [] none apart = absurd (apart refl refl)
unnamed (b ∷ text) [] none apart = false_from_ne_true (same (b ∷ text) []) (λ is. false≢true (ap is_empty (same-true (b ∷ text) [] is)))
unnamed text (b ∷ key) none apart = same_comm text (b ∷ key) ∙ none

-- a key that is the same as one that is named is named too
pub named_too : (text key other : Text) → is_named text key ≡ true → same key other ≡ true → is_named text other ≡ true
named_too text [] other named is = absurd (false≢true named)
named_too text (b ∷ key) [] named is = absurd (false≢true (ap is_empty (same-true (b ∷ key) [] is)))
named_too text (b ∷ key) (c ∷ other) named is = true-same (c ∷ other) text (sym (same-true (b ∷ key) (c ∷ other) is) ∙ same-true (b ∷ key) text named)

-- a crossref that names no entry is not the same as a key, nor as a new one
apart_from_new : (new : ℕ → Option Text) (entries : List EntryTexts) → CanRekey new entries → (n m : ℕ) (entry : EntryTexts) (text key changed : Text)
    → slice_get entries n ≡ Some entry → crossref_text entry ≡ Some text → target_of entries entry ≡ None → slice_get (keys_of entries) m ≡ Some key
    → new m ≡ Some changed → (text ≡ [] → key ≢ []) → same text key ≡ same text (unwrap_or (new m) key)
apart_from_new new entries can n m entry text key changed at says dangles there gets apart =
    let none : first_named text (keys_of entries) ≡ None = sym (ap (option_and_then (entry_named entries)) says) ∙ dangles in
    unnamed text key (none_is text (keys_of entries) none m key there) apart
    ∙ sym (ap (λ (o : Option Text). same text (unwrap_or o key)) gets ∙ same_comm text changed ∙ can.undangled m changed gets n entry text at dangles says)

-- ---- renaming a key

module _ (from to : Text) (entries : List EntryTexts) (can : CanRenameKey from to entries) where
  abbrev new : ℕ → Option Text
  new = key_for (first_named from (keys_of entries)) to

  the_one : (m : ℕ) × (first_named from (keys_of entries) ≡ Some m) × ((j : ℕ) (key : Text) → slice_get (keys_of entries) j ≡ Some key → is_named from key ≡ true → j ≡ m)
  the_one = only from (keys_of entries) can.once

  gets : (n : ℕ) → (the_one.0 == n) ≡ true → key_for (first_named from (keys_of entries)) to n ≡ Some to
  gets n is = ap (λ o. key_for o to n) the_one.1 ∙ cond-true (the_one.0 == n) (Some to) None is

  stays : (n : ℕ) → (the_one.0 == n) ≡ false → key_for (first_named from (keys_of entries)) to n ≡ None
  stays n is = ap (λ o. key_for o to n) the_one.1 ∙ cond-false (the_one.0 == n) (Some to) None is

  -- the renamed key is what `from` names
  is_from : (n : ℕ) (key : Text) → (the_one.0 == n) ≡ true → slice_get (keys_of entries) n ≡ Some key → is_named from key ≡ true
  is_from n key is at =
      let first : IsFirst from (keys_of entries) the_one.0 = first_is from (keys_of entries) the_one.0 the_one.1 in
      ap (is_named from) (same_Some key first.key (sym at ∙ ap (slice_get (keys_of entries)) (sym (eqb-true the_one.0 n is)) ∙ first.stands)) ∙ first.named

  is_other : (n : ℕ) (key : Text) → (the_one.0 == n) ≡ false → slice_get (keys_of entries) n ≡ Some key → is_named from key ≡ false
  is_other n key is at = false_from_ne_true (is_named from key) (λ named. eqb-false the_one.0 n is (sym (the_one.2 n key at named)))

  -- the renamed key, and another one
  one_and_other : (n m : ℕ) (a b : Text) → slice_get (keys_of entries) n ≡ Some a → slice_get (keys_of entries) m ≡ Some b → (the_one.0 == n) ≡ true → (the_one.0 == m) ≡ false
      → (same a b ≡ false) × (same to b ≡ false)
  one_and_other n m a b at there is other =
      let none : is_named from b ≡ false = is_other m b other there in (
        false_from_ne_true (same a b) (λ alike. false≢true (sym none ∙ named_too from a b (is_from n a is at) alike)),
        ⊎_elim
            (λ differs. differs)
            (λ named. absurd (false≢true (sym none ∙ not-false (is_named from b) named)))
            (and_cases (same to b) (not (is_named from b)) (none_at (λ key. same to key && not (is_named from key)) (keys_of entries) can.unused m b there)),
      )

  keys_kept : (n m : ℕ) (a b : Text) → slice_get (keys_of entries) n ≡ Some a → slice_get (keys_of entries) m ≡ Some b
      → same a b ≡ same (unwrap_or (key_for (first_named from (keys_of entries)) to n) a) (unwrap_or (key_for (first_named from (keys_of entries)) to m) b)
  keys_kept n m a b at there = ⊎_elim
      (λ one. ⊎_elim
      (λ two.
      let equal : a ≡ b = same_Some a b (sym at ∙ ap (slice_get (keys_of entries)) (sym (eqb-true the_one.0 n one) ∙ eqb-true the_one.0 m two) ∙ there) in
      true-same a b (ap folded equal) ∙ sym (now (gets n one) (gets m two) ∙ true-same to to refl))
      (λ other. let both = one_and_other n m a b at there one other in both.0 ∙ sym (now (gets n one) (stays m other) ∙ both.1))
      (cases_Bool (the_one.0 == m)))
      (λ other. ⊎_elim
      (λ two. let both = one_and_other m n b a there at two other in same_comm a b ∙ both.0 ∙ sym (now (stays n other) (gets m two) ∙ same_comm a to ∙ both.1))
      (λ another. sym (now (stays n other) (stays m another)))
      (cases_Bool (the_one.0 == m)))
      (cases_Bool (the_one.0 == n))
    where
      now : {o p : Option Text} → key_for (first_named from (keys_of entries)) to n ≡ o → key_for (first_named from (keys_of entries)) to m ≡ p
          → same (unwrap_or (key_for (first_named from (keys_of entries)) to n) a) (unwrap_or (key_for (first_named from (keys_of entries)) to m) b) ≡ same (unwrap_or o a) (unwrap_or p b)
      now first second = ap₂ (λ (o p : Option Text). same (unwrap_or o a) (unwrap_or p b)) first second

  renaming_keeps : KeepsNames (key_for (first_named from (keys_of entries)) to) entries
  renaming_keeps = record {
    keys = keys_kept;
    dangling = λ n m entry text key at says dangles there. ⊎_elim
        (λ one. apart_from_new new entries (can_rekey from to entries can) n m entry text key to at says dangles there (gets m one)
        (λ empty none. false≢true (sym (ap (is_named from) none) ∙ is_from m key one there)))
        (λ other. sym (ap (λ (o : Option Text). same text (unwrap_or o key)) (stays m other)))
        (cases_Bool (the_one.0 == m));
  }

pub rename-key-keeps-lists : rename_key_keeps_lists
rename-key-keeps-lists key_base db from to accepted =
    let can : CanRenameKey from to (entries_of db) = can_rename_key key_base db from to accepted in
    rekeying_keeps_lists (key_for (first_named from (keys_of (entries_of db))) to) db (can_rekey from to (entries_of db) can) (renaming_keeps from to (entries_of db) can)

-- ---- regenerating all keys

module _ (key_base : Record → Text) (fit : IsKeyBase key_base) (depth : ℕ) (entries : List EntryTexts) (differ : AllDiffer (keys_of entries)) (apart : NoneNamesNothing entries) where
  abbrev made : ℕ → Option Text
  made = slice_get (new_keys key_base depth entries)

  key_made : (n : ℕ) (key : Text) → slice_get (keys_of entries) n ≡ Some key
      → slice_get (keys_of (rekeyed (slice_get (new_keys key_base depth entries)) entries (can_regenerate key_base fit depth entries))) n ≡ Some (unwrap_or (slice_get (new_keys key_base depth entries) n) key)
  key_made n key at = ap (λ (keys : List Text). slice_get keys n) (keys-entries_with entries (slice_get (new_keys key_base depth entries)) 0 entries)
      ∙ key_at (slice_get (new_keys key_base depth entries)) (keys_of entries) n key at

  entry_of : (m : ℕ) (key : Text) → slice_get (keys_of entries) m ≡ Some key → (other : EntryTexts) × (slice_get entries m ≡ Some other) × (other.key ≡ key)
  entry_of m key at = ⊎_elim
      (λ none. absurd (none-some key (sym (slice_get-map (λ (e : EntryTexts). e.key) entries m ∙ ap (option_map (λ (e : EntryTexts). e.key)) none) ∙ at)))
      (λ some. (some.0, some.1, same_Some some.0.key key (sym (slice_get-map (λ (e : EntryTexts). e.key) entries m ∙ ap (option_map (λ (e : EntryTexts). e.key)) some.1) ∙ at)))
      (option_cases (slice_get entries m))

  regenerating_keeps : KeepsNames (slice_get (new_keys key_base depth entries)) entries
  regenerating_keeps = record {
    keys = λ n m a b at there. ⊎_elim
        (λ one. at_one n m a b at there (eqb-true n m one))
        (λ two. let ne : n ≢ m = eqb-false n m two in
        differ n m a b at there ne
        ∙ sym (all_differ key_base fit depth entries n m (unwrap_or (slice_get (new_keys key_base depth entries) n) a) (unwrap_or (slice_get (new_keys key_base depth entries) m) b) (key_made n a at) (key_made m b there) ne))
        (cases_Bool (n == m));
    dangling = λ n m entry text key at says dangles there. ⊎_elim
        (λ none. sym (ap (λ (o : Option Text). same text (unwrap_or o key)) none))
        (λ some. apart_from_new made entries (can_regenerate key_base fit depth entries) n m entry text key some.0 at says dangles there some.1
        (λ empty none. let other = entry_of m key there in apart n m entry other.0 at other.1 (says ∙ ap (λ (t : Text). Some t) empty) (other.2 ∙ none)))
        (option_cases (slice_get (new_keys key_base depth entries) m));
  }
    where
      at_one : (n m : ℕ) (a b : Text) → slice_get (keys_of entries) n ≡ Some a → slice_get (keys_of entries) m ≡ Some b → n ≡ m
          → same a b ≡ same (unwrap_or (slice_get (new_keys key_base depth entries) n) a) (unwrap_or (slice_get (new_keys key_base depth entries) m) b)
      at_one n m a b at there is =
          let equal : a ≡ b = same_Some a b (sym at ∙ ap (slice_get (keys_of entries)) is ∙ there) in
          true-same a b (ap folded equal)
          ∙ sym (true-same (unwrap_or (slice_get (new_keys key_base depth entries) n) a) (unwrap_or (slice_get (new_keys key_base depth entries) m) b)
          (ap₂ (λ (k : ℕ) (t : Text). folded (unwrap_or (slice_get (new_keys key_base depth entries) k) t)) is equal))

pub regenerate-keys-keeps-lists : regenerate_keys_keeps_lists
regenerate-keys-keeps-lists key_base fit db depth accepted differ apart =
    rekeying_keeps_lists (slice_get (new_keys key_base depth (entries_of db))) db (can_regenerate key_base fit depth (entries_of db)) (regenerating_keeps key_base fit depth (entries_of db) differ apart)
