-- The keys of listed entries have no white space: each is the key of its entry, or is the same if case does not count.
use Rattle.std.proofs.Common.{◌≡◌, ◌∙◌, ℕ, suc, ◌+◌, ◌<◌, Bool, true, false, cond, ◌||◌, List, [], ◌∷◌, ◌++◌, Option, Some, None, unwrap_or, option_map, find, map, filter_map, refl, sym, ap, ap₂, arith, ⊎_elim}
use Rattle.std.specs.Char.{to_ascii_lowercase}
use Rattle.std.specs.List.{list_any, enumerate_from, cons_option, AllByRecursion}
use Rattle.std.specs.Option.{option_map_or}
use Rattle.std.proofs.lemmas.Bool.{cases_lt, ne_eqb}
use Rattle.std.proofs.lemmas.Option.{none-some}
use Rattle.std.proofs.lemmas.Str.Ascii.{lowercase_is}
use Rattle.bib_spec.specs.Text.{Text, is_space, folded, same}
use Rattle.bib_spec.specs.Records.{EntryTexts, crossref_text}
use Rattle.bib_spec.proofs.Names.{same-true}
use Rattle.bibtex_spec.specs.Places.{cited_keys, are_all_cited, keys_before_star, Place, has_key, cited_place, is_awaited, held_by, taken, named_again, named, read_entry, read_entries, spelling, added_place, read_any, read_all, places_of}
use Rattle.bibtex_spec.specs.Listed.{is_enough}
use Rattle.bibtex_places.specs.declared.lists.BibtexEntry.{BibtexEntry}
use Rattle.bibtex_places.specs.Lists.{listed_entry, entry_at, listed_entries}

-- the text has no white space
abbrev pub IsBare : Text → Type 0
IsBare text = list_any is_space text ≡ false

-- ---- texts that are the same

far_space : (c : ℕ) → 64 < c → is_space c ≡ false
unfolding is_space
far_space c far = rw (ne_eqb c 32 (λ i. omega (arith, far, i)), ne_eqb c 9 (λ i. omega (arith, far, i)), ne_eqb c 10 (λ i. omega (arith, far, i)), ne_eqb c 13 (λ i. omega (arith, far, i))) refl

lower_space : (b : ℕ) → is_space (to_ascii_lowercase b) ≡ is_space b
lower_space b =
    let a = lowercase_is b in
    ⊎_elim (λ l. ap is_space (a.1 l))
    (λ l. ⊎_elim
    (λ m. ap is_space (a.0 (l, omega (arith, m))) ∙ far_space (b + 32) (omega (arith, l)) ∙ sym (far_space b (omega (arith, l))))
    (λ m. ap is_space (a.2 (omega (arith, m))))
    (cases_lt b 91))
    (cases_lt b 65)

folded_space : (text : Text) → list_any is_space (folded text) ≡ list_any is_space text
folded_space [] = refl
folded_space (b ∷ text) = ap₂ (λ (x y : Bool). x || y) (lower_space b) (folded_space text)

pub same_bare : (a b : Text) → same a b ≡ true → IsBare a → IsBare b
same_bare a b is bare = sym (folded_space b) ∙ ap (list_any is_space) (sym (same-true a b is)) ∙ folded_space a ∙ bare

-- ---- places

-- a place that an entry holds is spelled without white space
abbrev HoldsBare : Place → Type 0
HoldsBare place = (m : ℕ) → place.entry ≡ Some m → IsBare place.spelled

abbrev AllHoldBare : List Place → Type 0
AllHoldBare places = AllByRecursion HoldsBare places

abbrev HasBareKey : EntryTexts → Type 0
HasBareKey entry = IsBare entry.key

bare_taken : (entry : EntryTexts) (n : ℕ) → HasBareKey entry → (places : List Place) → AllHoldBare places → AllHoldBare (taken entry n places)
bare_taken entry n key [] all = tt
bare_taken entry n key (place ∷ places) all = at (has_key entry.key place) refl (bare_taken entry n key places all.1)
  where
    spelled : (c : Bool) → has_key entry.key place ≡ true → IsBare (cond c place.spelled entry.key)
    spelled true is = same_bare entry.key place.spelled is key
    spelled false is = key

    at : (b : Bool) → has_key entry.key place ≡ b → AllHoldBare (taken entry n places) → AllHoldBare (cond b (held_by entry n place ∷ places) (place ∷ taken entry n places))
    at true is rest = ((λ m e. spelled place.is_cited is), all.1)
    at false is rest = (all.0, rest)

bare_named : (text : Text) (places : List Place) → AllHoldBare places → AllHoldBare (named text places)
bare_named text [] all = ((λ m e. absurd (none-some m e)), tt)
bare_named text (place ∷ places) all = at (has_key text place) (bare_named text places all.1)
  where
    at : (b : Bool) → AllHoldBare (named text places) → AllHoldBare (cond b (named_again place ∷ places) (place ∷ named text places))
    at true rest = (all.0, all.1)
    at false rest = (all.0, rest)

bare_read : (entry : EntryTexts) (n : ℕ) → HasBareKey entry → (places : List Place) → AllHoldBare places → AllHoldBare (read_entry entry n places)
bare_read entry n key places all = at (is_awaited entry.key places) (crossref_text entry)
  where
    now : AllHoldBare (taken entry n places)
    now = bare_taken entry n key places all

    at : (b : Bool) (o : Option Text) → AllHoldBare (cond b (option_map_or (λ text. named text (taken entry n places)) o (taken entry n places)) places)
    at false o = all
    at true None = now
    at true (Some text) = bare_named text (taken entry n places) now

bare_entries : (n : ℕ) (places : List Place) (entries : List EntryTexts) → AllByRecursion HasBareKey entries → AllHoldBare places → AllHoldBare (read_entries n places entries)
bare_entries n places [] keys all = all
bare_entries n places (entry ∷ entries) keys all = bare_entries (suc n) (read_entry entry n places) entries keys.1 (bare_read entry n keys.0 places all)

bare_push : (places : List Place) (place : Place) → AllHoldBare places → HoldsBare place → AllHoldBare (places ++ place ∷ [])
bare_push [] place all one = (one, tt)
bare_push (first ∷ places) place all one = (all.0, bare_push places place all.1 one)

bare_spelling : (cited : List Text) (key : Text) → IsBare key → IsBare (spelling cited key)
bare_spelling [] key bare = bare
bare_spelling (other ∷ cited) key bare = at (same key other) refl (bare_spelling cited key bare)
  where
    at : (b : Bool) → same key other ≡ b → IsBare (spelling cited key) → IsBare (unwrap_or (cond b (Some other) (find (same key) cited)) key)
    at true is rest = same_bare key other is bare
    at false is rest = rest

bare_any : (cited : List Text) (entry : EntryTexts) (n : ℕ) → HasBareKey entry → (places : List Place) → AllHoldBare places → AllHoldBare (read_any cited entry n places)
bare_any cited entry n key places all = at (list_any (has_key entry.key) places) (is_awaited entry.key places)
  where
    at : (b c : Bool) → AllHoldBare (cond b (cond c (taken entry n places) places) (places ++ added_place cited entry n ∷ []))
    at true true = bare_taken entry n key places all
    at true false = all
    at false c = bare_push places (added_place cited entry n) all (λ m e. bare_spelling cited entry.key key)

bare_all : (cited : List Text) (n : ℕ) (places : List Place) (entries : List EntryTexts) → AllByRecursion HasBareKey entries → AllHoldBare places → AllHoldBare (read_all cited n places entries)
bare_all cited n places [] keys all = all
bare_all cited n places (entry ∷ entries) keys all = bare_all cited (suc n) (read_any cited entry n places) entries keys.1 (bare_any cited entry n keys.0 places all)

bare_cited : (keys : List Text) → AllHoldBare (map cited_place keys)
bare_cited [] = tt
bare_cited (key ∷ keys) = ((λ m e. absurd (none-some m e)), bare_cited keys)

bare_places : (entries : List EntryTexts) (keys : List Text) → AllByRecursion HasBareKey entries → AllHoldBare (places_of entries keys)
bare_places entries keys bare = at (are_all_cited keys)
  where
    at : (b : Bool) → AllHoldBare (cond b (read_all (cited_keys keys) 0 (map cited_place (keys_before_star keys)) entries) (read_entries 0 (map cited_place (cited_keys keys)) entries))
    at true = bare_all (cited_keys keys) 0 (map cited_place (keys_before_star keys)) entries bare (bare_cited (keys_before_star keys))
    at false = bare_entries 0 (map cited_place (cited_keys keys)) entries bare (bare_cited (cited_keys keys))

-- ---- listed entries

abbrev pub IsListedBare : BibtexEntry → Type 0
IsListedBare listed = IsBare listed.key

module _ (entries : List EntryTexts) (keys : List Text) (least : ℕ) (places : List Place) where
  bare_along : (from : ℕ) (ps : List Place) → AllHoldBare ps → AllByRecursion IsListedBare (filter_map (entry_at entries keys least places) (enumerate_from from ps))
  bare_along from [] all = tt
  bare_along from (place ∷ ps) all = at (is_enough (are_all_cited keys) least place) place.entry refl (bare_along (from + 1) ps all.1)
    where
      others : List BibtexEntry
      others = filter_map (entry_at entries keys least places) (enumerate_from (from + 1) ps)

      at : (b : Bool) (o : Option ℕ) → place.entry ≡ o → AllByRecursion IsListedBare others → AllByRecursion IsListedBare (cons_option (cond b (option_map (listed_entry entries keys least places from place) o) None) others)
      at false o e rest = rest
      at true None e rest = rest
      at true (Some m) e rest = (all.0 m e, rest)

-- the keys of the listed entries have no white space, if those of the entries have none
pub listed_bare : (entries : List EntryTexts) (keys : List Text) (least : ℕ) → AllByRecursion HasBareKey entries → AllByRecursion IsListedBare (listed_entries entries keys least)
listed_bare entries keys least bare = bare_along entries keys least (places_of entries keys) 0 (places_of entries keys) (bare_places entries keys bare)
