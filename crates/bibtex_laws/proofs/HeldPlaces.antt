-- Each held place has the key of the entry that holds it.
use Rattle.std.proofs.Common.{◌≡◌, ◌∙◌, ℕ, zero, suc, ◌+◌, Bool, true, false, cond, List, [], ◌∷◌, ◌++◌, Option, Some, None, unwrap_or, option_map, slice_get, map, find, refl, sym, ap, subst, arith}
use Rattle.std.specs.Bool.{⊤}
use Rattle.std.specs.List.{list_any}
use Rattle.std.specs.Option.{option_map_or}
use Rattle.std.proofs.lemmas.Option.{none-some, same_Some}
use Rattle.bib_spec.specs.Text.{Text, same}
use Rattle.bib_spec.specs.Records.{EntryTexts, crossref_text}
use Rattle.bib_spec.proofs.Names.{true-same}
use Rattle.bib_spec.proofs.Places.{suc_some}
use Rattle.bibtex_spec.specs.Places.{cited_keys, are_all_cited, keys_before_star, Place, has_key, cited_place, is_awaited, held_by, taken, named_again, named, named_in, read_entry, read_entries, spelling, added_place, read_any, read_all, places_of}
use Rattle.bibtex_spec.specs.Listed.{place_with}

module _ (entries : List EntryTexts) where
  -- the entry that holds the place has its key
  abbrev pub Fits : Place → Type 0
  Fits place = (n : ℕ) → place.entry ≡ Some n → (entry : EntryTexts) × (slice_get entries n ≡ Some entry) × (same entry.key place.spelled ≡ true)

  abbrev pub AllFit : List Place → Type 0
  AllFit [] = ⊤
  AllFit (p ∷ ps) = Fits p × AllFit ps

  pub fit_at : (ps : List Place) (k : ℕ) (p : Place) → AllFit ps → slice_get ps k ≡ Some p → Fits p
  fit_at [] k p fit at = absurd (none-some p at)
  fit_at (q ∷ ps) zero p fit at = subst Fits (same_Some q p at) fit.0
  fit_at (q ∷ ps) (suc k) p fit at = fit_at ps k p fit.1 at

  held_fits : (entry : EntryTexts) (n : ℕ) (p : Place) → slice_get entries n ≡ Some entry → same entry.key p.spelled ≡ true → Fits (held_by entry n p)
  held_fits entry n p at is m holds = (entry, ap (slice_get entries) (sym (same_Some n m holds)) ∙ at, spelled p.is_cited)
    where
      spelled : (c : Bool) → same entry.key (cond c p.spelled entry.key) ≡ true
      spelled true = is
      spelled false = true-same entry.key entry.key refl

  taken_fit : (entry : EntryTexts) (n : ℕ) → slice_get entries n ≡ Some entry → (ps : List Place) → AllFit ps → AllFit (taken entry n ps)
  taken_fit entry n at [] fit = tt
  taken_fit entry n at (p ∷ ps) fit = split (has_key entry.key p) refl (taken_fit entry n at ps fit.1)
    where
      split : (b : Bool) → has_key entry.key p ≡ b → AllFit (taken entry n ps) → AllFit (cond b (held_by entry n p ∷ ps) (p ∷ taken entry n ps))
      split true is rest = (held_fits entry n p at is, fit.1)
      split false is rest = (fit.0, rest)

  named_fit : (text : Text) (ps : List Place) → AllFit ps → AllFit (named text ps)
  named_fit text [] fit = (λ m holds. absurd (none-some m holds), tt)
  named_fit text (p ∷ ps) fit = split (has_key text p) (named_fit text ps fit.1)
    where
      split : (b : Bool) → AllFit (named text ps) → AllFit (cond b (named_again p ∷ ps) (p ∷ named text ps))
      split true rest = (fit.0, fit.1)
      split false rest = (fit.0, rest)

  named_in_fit : (o : Option Text) (ps : List Place) → AllFit ps → AllFit (option_map_or (λ text. named text ps) o ps)
  named_in_fit None ps fit = fit
  named_in_fit (Some text) ps fit = named_fit text ps fit

  read_fit : (entry : EntryTexts) (n : ℕ) (ps : List Place) → slice_get entries n ≡ Some entry → AllFit ps → AllFit (read_entry entry n ps)
  read_fit entry n ps at fit = split (is_awaited entry.key ps)
    where
      split : (b : Bool) → AllFit (cond b (named_in entry (taken entry n ps)) ps)
      split true = named_in_fit (crossref_text entry) (taken entry n ps) (taken_fit entry n at ps fit)
      split false = fit

  -- the rest of the entries, the first of which has the number n
  abbrev pub IsRest : ℕ → List EntryTexts → Type 0
  IsRest n rest = (j : ℕ) (entry : EntryTexts) → slice_get rest j ≡ Some entry → slice_get entries (n + j) ≡ Some entry

  pub rest_head : (n : ℕ) (entry : EntryTexts) (rest : List EntryTexts) → IsRest n (entry ∷ rest) → slice_get entries n ≡ Some entry
  rest_head n entry rest are = (let is : n ≡ n + 0 = omega arith in ap (slice_get entries) is) ∙ are zero entry refl

  pub rest_tail : (n : ℕ) (entry : EntryTexts) (rest : List EntryTexts) → IsRest n (entry ∷ rest) → IsRest (suc n) rest
  rest_tail n entry rest are j other at = (let is : suc n + j ≡ n + suc j = omega arith in ap (slice_get entries) is) ∙ are (suc j) other at

  all_fit : (n : ℕ) (ps : List Place) (rest : List EntryTexts) → IsRest n rest → AllFit ps → AllFit (read_entries n ps rest)
  all_fit n ps [] are fit = fit
  all_fit n ps (entry ∷ rest) are fit = all_fit (suc n) (read_entry entry n ps) rest (rest_tail n entry rest are) (read_fit entry n ps (rest_head n entry rest are) fit)

  -- ---- where all are cited

  spelled_same : (key : Text) (cited : List Text) → same key (spelling cited key) ≡ true
  spelled_same key [] = true-same key key refl
  spelled_same key (c ∷ cited) = split (same key c) refl (spelled_same key cited)
    where
      split : (b : Bool) → same key c ≡ b → same key (spelling cited key) ≡ true → same key (unwrap_or (cond b (Some c) (find (same key) cited)) key) ≡ true
      split true is rest = is
      split false is rest = rest

  fit_and : (ps : List Place) (p : Place) → AllFit ps → Fits p → AllFit (ps ++ p ∷ [])
  fit_and [] p fit one = (one, tt)
  fit_and (q ∷ ps) p fit one = (fit.0, fit_and ps p fit.1 one)

  any_fit : (cited : List Text) (entry : EntryTexts) (n : ℕ) (ps : List Place) → slice_get entries n ≡ Some entry → AllFit ps → AllFit (read_any cited entry n ps)
  any_fit cited entry n ps at fit = split (list_any (has_key entry.key) ps) (is_awaited entry.key ps)
    where
      split : (b c : Bool) → AllFit (cond b (cond c (taken entry n ps) ps) (ps ++ added_place cited entry n ∷ []))
      split true true = taken_fit entry n at ps fit
      split true false = fit
      split false c = fit_and ps (added_place cited entry n) fit (λ m holds. (entry, ap (slice_get entries) (sym (same_Some n m holds)) ∙ at, spelled_same entry.key cited))

  star_fit : (cited : List Text) (n : ℕ) (ps : List Place) (rest : List EntryTexts) → IsRest n rest → AllFit ps → AllFit (read_all cited n ps rest)
  star_fit cited n ps [] are fit = fit
  star_fit cited n ps (entry ∷ rest) are fit =
      star_fit cited (suc n) (read_any cited entry n ps) rest (rest_tail n entry rest are) (any_fit cited entry n ps (rest_head n entry rest are) fit)

  cited_fit : (keys : List Text) → AllFit (map cited_place keys)
  cited_fit [] = tt
  cited_fit (key ∷ keys) = (λ m holds. absurd (none-some m holds), cited_fit keys)

  pub places_fit : (keys : List Text) → AllFit (places_of entries keys)
  places_fit keys = split (are_all_cited keys)
    where
      whole : IsRest 0 entries
      whole j entry at = (let is : 0 + j ≡ j = omega arith in ap (slice_get entries) is) ∙ at

      split : (b : Bool) → AllFit (cond b (read_all (cited_keys keys) 0 (map cited_place (keys_before_star keys)) entries) (read_entries 0 (map cited_place (cited_keys keys)) entries))
      split true = star_fit (cited_keys keys) 0 (map cited_place (keys_before_star keys)) entries whole (cited_fit (keys_before_star keys))
      split false = all_fit 0 (map cited_place (cited_keys keys)) entries whole (cited_fit (cited_keys keys))

-- the place with a key is there, and has the key
pub place_found : (text : Text) (ps : List Place) (j : ℕ) → place_with text ps ≡ Some j → (p : Place) × (slice_get ps j ≡ Some p) × (same text p.spelled ≡ true)
place_found text [] j found = absurd (none-some j found)
place_found text (q ∷ ps) j found = split (same text q.spelled) refl found (λ k later. place_found text ps k later)
  where
    split : (b : Bool) → same text q.spelled ≡ b → cond b (Some 0) (option_map suc (place_with text ps)) ≡ Some j
        → ((k : ℕ) → place_with text ps ≡ Some k → (p : Place) × (slice_get ps k ≡ Some p) × (same text p.spelled ≡ true))
        → (p : Place) × (slice_get (q ∷ ps) j ≡ Some p) × (same text p.spelled ≡ true)
    split true is here rest = (q, ap (slice_get (q ∷ ps)) (sym (same_Some 0 j here)), is)
    split false is later rest =
        let one = suc_some (place_with text ps) j later in
        let p = rest one.0 one.1 in
        (p.0, ap (slice_get (q ∷ ps)) (sym one.2) ∙ p.1, p.2)
