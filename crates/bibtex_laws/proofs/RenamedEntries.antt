-- Entries of which some get new keys: each is its renamed one, and so is each cited key.
use Rattle.std.proofs.Common.{◌≡◌, ◌∙◌, ℕ, zero, suc, ◌+◌, true, false, not, List, [], ◌∷◌, Option, Some, None, is_some, unwrap_or, option_map, option_and_then, slice_get, find, map, codes, ⊎_elim, refl, sym, ap, ap₂, subst, subst₂, arith, add-zero, zero-add}
use Rattle.std.specs.List.{list_all}
use Rattle.std.proofs.lemmas.Bool.{false≢true, and_parts, or_parts, true≢false}
use Rattle.std.proofs.lemmas.Option.{slice_get-map}
use Rattle.bib_spec.specs.Text.{Text, same}
use Rattle.bib_spec.specs.Texts.{is_empty, months, field_text}
use Rattle.bib_spec.specs.Reading.{Reading}
use Rattle.bib_spec.specs.Records.{Field, EntryTexts, crossref, has_name, entries_of, keys_of, first_named, entry_named, crossref_text, target_of, target}
use Rattle.bib_spec.proofs.Names.{true-same, same_comm}
use Rattle.bib_spec.proofs.Places.{IsFirst, first_is, none_at}
use Rattle.bib_spec.proofs.Keys.{option_cases, keys_with, key_at}
use Rattle.edit_spec.specs.Edits.{with_keys}
use Rattle.edit_spec.specs.Laws.{renamed_key}
use Rattle.edit_spec.proofs.Fields.{crossref_to, text-with_text, own_fields-crossref_to}
use Rattle.edit_spec.proofs.Rekeyed.{entry_with, entries_with, entries_rekeyed, keys-entries_with, CanRekey, rekeyed}
use Rattle.bibtex_spec.specs.Places.{is_star, are_all_cited}
use Rattle.bibtex_spec.specs.Listed.{listed_as_bibtex}
use Rattle.bibtex_spec.specs.ListLaws.{BothOrNone, InStep, EntryBecomes, RecordBecomes, KeyBecomes}
use Rattle.bibtex_spec.proofs.RenamingLaws.{keeps-all-lists}
use Rattle.bibtex_laws.specs.RenamingLists.{IsRenamed, KeepsLists}
use Rattle.bibtex_laws.proofs.SameNames.{all_alike, renamed_keeps_same}

-- New keys for which keys are the same afterwards where they were before; a crossref that names no entry is the same as no key
-- that it was not the same as.
pub record KeepsNames (new : ℕ → Option Text) (entries : List EntryTexts) : Type 0 where
  pub keys : (n m : ℕ) (a b : Text) → slice_get (keys_of entries) n ≡ Some a → slice_get (keys_of entries) m ≡ Some b
      → same a b ≡ same (unwrap_or (new n) a) (unwrap_or (new m) b)
  pub dangling : (n m : ℕ) (entry : EntryTexts) (text key : Text) → slice_get entries n ≡ Some entry → crossref_text entry ≡ Some text → target_of entries entry ≡ None
      → slice_get (keys_of entries) m ≡ Some key → same text key ≡ same text (unwrap_or (new m) key)

key_of : (entries : List EntryTexts) (n : ℕ) (entry : EntryTexts) → slice_get entries n ≡ Some entry → slice_get (keys_of entries) n ≡ Some entry.key
key_of entries n entry at = slice_get-map (λ (e : EntryTexts). e.key) entries n ∙ ap (option_map (λ (e : EntryTexts). e.key)) at

module _ (new : ℕ → Option Text) (entries : List EntryTexts) (can : CanRekey new entries) (keeps : KeepsNames new entries) where
  abbrev pub after : List EntryTexts
  after = rekeyed new entries can

  -- a name has the same keys before and after, if it is so place by place
  pointwise : (a x : Text) (n : ℕ) (keys : List Text) → ((j : ℕ) (key : Text) → slice_get keys j ≡ Some key → same a key ≡ same x (unwrap_or (new (n + j)) key))
      → map (same a) keys ≡ map (same x) (keys_with new n keys)
  pointwise a x n [] alike = refl
  pointwise a x n (key ∷ keys) alike = ap₂ ◌∷◌
      (alike zero key refl ∙ ap (λ (i : ℕ). same x (unwrap_or (new i) key)) (add-zero n))
      (pointwise a x (suc n) keys (λ j other at. alike (suc j) other at ∙ (let is : n + suc j ≡ suc n + j = omega arith in ap (λ (i : ℕ). same x (unwrap_or (new i) other)) is)))

  alike : (a x : Text) → ((j : ℕ) (key : Text) → slice_get (keys_of entries) j ≡ Some key → same a key ≡ same x (unwrap_or (new j) key))
      → map (same a) (keys_of entries) ≡ map (same x) (keys_of (rekeyed new entries can))
  alike a x at =
      pointwise a x 0 (keys_of entries) (λ j key there. at j key there ∙ ap (λ (i : ℕ). same x (unwrap_or (new i) key)) (sym (zero-add j)))
      ∙ ap (map (same x)) (sym (keys-entries_with entries new 0 entries))

  -- a name of an entry becomes a name of the entry afterwards
  pub name_of : (n : ℕ) (key text changed : Text) → slice_get (keys_of entries) n ≡ Some key → same text key ≡ true → same (unwrap_or (new n) key) changed ≡ true
      → IsRenamed entries (rekeyed new entries can) text changed
  name_of n key text changed at is becomes = record {
    entries =
        all_alike text key (keys_of entries) is
        ∙ alike key (unwrap_or (new n) key) (λ j other there. keeps.keys n j key other at there)
        ∙ all_alike (unwrap_or (new n) key) changed (keys_of (rekeyed new entries can)) becomes;
    unchanged = λ none. absurd (true≢false (sym is ∙ none_at (same text) (keys_of entries) none n key at));
  }

  -- a crossref that names no entry stays
  stays : (n : ℕ) (entry : EntryTexts) (text : Text) → slice_get entries n ≡ Some entry → crossref_text entry ≡ Some text → target_of entries entry ≡ None
      → IsRenamed entries (rekeyed new entries can) text text
  stays n entry text at says dangles = record {
    entries = alike text text (λ m key there. keeps.dangling n m entry text key at says dangles there);
    unchanged = λ none. refl;
  }

  abbrev said : List Field → Option Text
  said fields = option_map (λ field. field_text field.raw) (find (has_name crossref) fields)

  -- the crossref that names entry m
  points : (entry : EntryTexts) (text : Text) (m : ℕ) → crossref_text entry ≡ Some text → first_named text (keys_of entries) ≡ Some m
      → (o : Option Text) → new m ≡ o → BothOrNone (IsRenamed entries (rekeyed new entries can)) (Some text) (said (crossref_to o entry.fields))
  points entry text m says names o is =
      let first : IsFirst text (keys_of entries) m = first_is text (keys_of entries) m names in
      let named : same text first.key ≡ true = same_comm text first.key ∙ (and_parts (not (is_empty first.key)) (same first.key text) first.named).1 in
      by_new first named o is
    where
      by_new : (first : IsFirst text (keys_of entries) m) → same text first.key ≡ true → (o : Option Text) → new m ≡ o
          → BothOrNone (IsRenamed entries (rekeyed new entries can)) (Some text) (said (crossref_to o entry.fields))
      by_new first named None is =
          subst (λ (t : Option Text). BothOrNone (IsRenamed entries (rekeyed new entries can)) (Some text) t) (sym says)
          (name_of m first.key text text first.stands named (ap (λ (p : Option Text). same (unwrap_or p first.key) text) is ∙ same_comm first.key text ∙ named))
      by_new first named (Some key) is =
          subst (λ (t : Option Text). BothOrNone (IsRenamed entries (rekeyed new entries can)) (Some text) t)
          (sym (text-with_text key text entry.fields says ∙ ap (λ (t : Text). Some t) (can.unspaced m key is)))
          (name_of m first.key text key first.stands named (ap (λ (p : Option Text). same (unwrap_or p first.key) key) is ∙ true-same key key refl))

  crossref_of : (n : ℕ) (entry : EntryTexts) → slice_get entries n ≡ Some entry
      → BothOrNone (IsRenamed entries (rekeyed new entries can)) (crossref_text entry) (said (crossref_to (option_and_then new (target entries n)) entry.fields))
  crossref_of n entry at = ⊎_elim
      (λ none. subst₂ (λ (s t : Option Text). BothOrNone (IsRenamed entries (rekeyed new entries can)) s t) (sym none)
      (sym (ap (λ (t : Option ℕ). said (crossref_to (option_and_then new t) entry.fields)) (targets (ap (option_and_then (entry_named entries)) none)) ∙ none)) tt)
      (λ some. ⊎_elim
      (λ dangles.
      let no_target : target_of entries entry ≡ None = ap (option_and_then (entry_named entries)) some.1 ∙ dangles in
      subst₂ (λ (s t : Option Text). BothOrNone (IsRenamed entries (rekeyed new entries can)) s t) (sym some.1)
      (sym (ap (λ (t : Option ℕ). said (crossref_to (option_and_then new t) entry.fields)) (targets no_target) ∙ some.1)) (stays n entry some.0 at some.1 no_target))
      (λ names.
      let is_target : target_of entries entry ≡ Some names.0 = ap (option_and_then (entry_named entries)) some.1 ∙ names.1 in
      subst₂ (λ (s t : Option Text). BothOrNone (IsRenamed entries (rekeyed new entries can)) s t) (sym some.1)
      (sym (ap (λ (t : Option ℕ). said (crossref_to (option_and_then new t) entry.fields)) (targets is_target)))
      (points entry some.0 names.0 some.1 names.1 (new names.0) refl))
      (option_cases (first_named some.0 (keys_of entries))))
      (option_cases (crossref_text entry))
    where
      targets : {o : Option ℕ} → target_of entries entry ≡ o → target entries n ≡ o
      targets is = ap (option_and_then (target_of entries)) at ∙ is

  pub entry_becomes : (n : ℕ) (entry : EntryTexts) → slice_get entries n ≡ Some entry → EntryBecomes (IsRenamed entries (rekeyed new entries can)) entry (entry_with entries new n entry)
  entry_becomes n entry at = record {
    kind = refl;
    key = name_of n entry.key entry.key (unwrap_or (new n) entry.key) (key_of entries n entry at) (true-same entry.key entry.key refl) (true-same (unwrap_or (new n) entry.key) (unwrap_or (new n) entry.key) refl);
    fields = sym (own_fields-crossref_to (option_and_then new (target entries n)) entry (unwrap_or (new n) entry.key));
    crossref = crossref_of n entry at;
  }

  steps : (n : ℕ) (rest : List EntryTexts) → ((j : ℕ) (entry : EntryTexts) → slice_get rest j ≡ Some entry → slice_get entries (n + j) ≡ Some entry)
      → InStep (EntryBecomes (IsRenamed entries (rekeyed new entries can))) rest (entries_with entries new n rest)
  steps n [] there = tt
  steps n (entry ∷ rest) there = (
    entry_becomes n entry (ap (slice_get entries) (sym (add-zero n)) ∙ there zero entry refl),
    steps (suc n) rest (λ j other at. (let is : suc n + j ≡ n + suc j = omega arith in ap (slice_get entries) is) ∙ there (suc j) other at),
  )

  entries_become : InStep (EntryBecomes (IsRenamed entries (rekeyed new entries can))) entries (rekeyed new entries can)
  entries_become = steps 0 entries (λ j entry at. ap (slice_get entries) (zero-add j) ∙ at)

  -- ---- cited keys

  key_becomes : (text : Text) (m : ℕ) → entry_named entries text ≡ Some m → IsRenamed entries (rekeyed new entries can) text (renamed_key entries (rekeyed new entries can) text)
  key_becomes text m found =
      let first : IsFirst text (keys_of entries) m = first_is text (keys_of entries) m found in
      name_of m first.key text (renamed_key entries (rekeyed new entries can) text) first.stands
      (same_comm text first.key ∙ (and_parts (not (is_empty first.key)) (same first.key text) first.named).1)
      (ap (same (unwrap_or (new m) first.key)) (is first) ∙ true-same (unwrap_or (new m) first.key) (unwrap_or (new m) first.key) refl)
    where
      is : (first : IsFirst text (keys_of entries) m) → renamed_key entries (rekeyed new entries can) text ≡ unwrap_or (new m) first.key
      is first =
          ap (λ o. unwrap_or (option_and_then (slice_get (keys_of (rekeyed new entries can))) o) text) found
          ∙ ap (λ keys. unwrap_or (slice_get keys m) text) (keys-entries_with entries new 0 entries)
          ∙ ap (λ o. unwrap_or o text) (key_at new (keys_of entries) m first.key first.stands)

  keys_become : (keys : List Text) → list_all (λ key. is_some (entry_named entries key)) keys ≡ true → are_all_cited keys ≡ false
      → are_all_cited (map (renamed_key entries (rekeyed new entries can)) keys) ≡ false
      → InStep (KeyBecomes (IsRenamed entries (rekeyed new entries can))) keys (map (renamed_key entries (rekeyed new entries can)) keys)
  keys_become [] found plain plain' = tt
  keys_become (key ∷ keys) found plain plain' =
      let both = and_parts (is_some (entry_named entries key)) (list_all (λ key. is_some (entry_named entries key)) keys) found in
      let old = or_parts (is_star key) (are_all_cited keys) plain in
      let now = or_parts (is_star (renamed_key entries (rekeyed new entries can) key)) (are_all_cited (map (renamed_key entries (rekeyed new entries can)) keys)) plain' in (
        record {
          key = λ none. ⊎_elim
              (λ nothing. absurd (false≢true (sym (ap is_some nothing) ∙ both.0)))
              (λ some. key_becomes key some.0 some.1)
              (option_cases (entry_named entries key));
          star = old.0 ∙ sym now.0;
        },
        keys_become keys both.1 old.1 now.1,
      )

  pub all_listed : (least : ℕ) → InStep (RecordBecomes (IsRenamed entries (rekeyed new entries can))) (listed_as_bibtex entries (codes "*" ∷ []) least) (listed_as_bibtex (rekeyed new entries can) (codes "*" ∷ []) least)
  all_listed least =
      (keeps-all-lists (IsRenamed entries (rekeyed new entries can)) (renamed_keeps_same entries (rekeyed new entries can)) entries (rekeyed new entries can) entries_become
      (codes "*" ∷ []) (codes "*" ∷ []) (record { key = λ none. absurd (true≢false none); star = refl }, tt) least).0

  pub cited_listed : (keys : List Text) (least : ℕ) → list_all (λ key. is_some (entry_named entries key)) keys ≡ true → are_all_cited keys ≡ false
      → are_all_cited (map (renamed_key entries (rekeyed new entries can)) keys) ≡ false
      → InStep (RecordBecomes (IsRenamed entries (rekeyed new entries can))) (listed_as_bibtex entries keys least) (listed_as_bibtex (rekeyed new entries can) (map (renamed_key entries (rekeyed new entries can)) keys) least)
  cited_listed keys least found plain plain' =
      (keeps-all-lists (IsRenamed entries (rekeyed new entries can)) (renamed_keeps_same entries (rekeyed new entries can)) entries (rekeyed new entries can) entries_become
      keys (map (renamed_key entries (rekeyed new entries can)) keys) (keys_become keys found plain plain') least).0

-- the law of all edits of keys
pub rekeying_keeps_lists : (new : ℕ → Option Text) (db : Reading) → CanRekey new (entries_of db) → KeepsNames new (entries_of db) → KeepsLists db (with_keys new db)
rekeying_keeps_lists new db can keeps = record {
  all = λ least.
      let P : List EntryTexts → Type 0 = λ s. InStep (RecordBecomes (IsRenamed (entries_of db) s)) (listed_as_bibtex (entries_of db) (codes "*" ∷ []) least) (listed_as_bibtex s (codes "*" ∷ []) least) in
      subst P (sym is) (all_listed new (entries_of db) can keeps least);
  cited = λ keys least found plain.
      let P : List EntryTexts → Type 0 = λ s. are_all_cited (map (renamed_key (entries_of db) s) keys) ≡ false
      → InStep (RecordBecomes (IsRenamed (entries_of db) s)) (listed_as_bibtex (entries_of db) keys least) (listed_as_bibtex s (map (renamed_key (entries_of db) s) keys) least) in
      subst P (sym is) (cited_listed new (entries_of db) can keeps keys least found plain);
}
  where
    is : entries_of (with_keys new db) ≡ rekeyed new (entries_of db) can
    is = entries_rekeyed (entries_of db) new db.items months 0
