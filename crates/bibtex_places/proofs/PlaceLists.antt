-- Places that are found by their keys, taken and named.
use Rattle.std.proofs.Common.{◌≡◌, ◌∙◌, ℕ, zero, suc, ◌≤◌, Bool, true, false, cond, ◌||◌, List, [], ◌∷◌, ◌++◌, Option, Some, None, is_none, is_some, option_map, option_and_then, slice_get, set, map, find, refl, sym, ap, subst, arith}
use Rattle.std.specs.List.{list_any}
use Rattle.std.specs.Option.{option_map_or}
use Rattle.std.proofs.lemmas.Option.{none-some, same_Some}
use Rattle.bib_spec.specs.Text.{Text, folded, same}
use Rattle.bib_spec.specs.Records.{EntryTexts, crossref_text}
use Rattle.bib_spec.proofs.Names.{same-true}
use Rattle.bibtex_spec.specs.Places.{Place, has_key, named_place, is_awaited, held_by, taken, named_again, named, read_entry}
use Rattle.bibtex_spec.specs.Listed.{first_same, place_with, holder}
use Rattle.bibtex_places.specs.Steps.{if_empty, awaiting, CountsAtMost}
use Rattle.bibtex_places.proofs.Keys.{any_first, first_set}

abbrev pub keys_in : List Place → List Text
keys_in places = map (λ (place : Place). place.spelled) places

-- ---- places by their keys

pub any_place : (key : Text) (places : List Place) → list_any (has_key key) places ≡ is_some (place_with key places)
any_place key places = along places ∙ any_first key (keys_in places)
  where
    along : (places : List Place) → list_any (has_key key) places ≡ list_any (same key) (keys_in places)
    along [] = refl
    along (place ∷ places) = ap (λ b. same key place.spelled || b) (along places)

pub find_place : (key : Text) (places : List Place) → find (has_key key) places ≡ option_and_then (slice_get places) (place_with key places)
find_place key [] = refl
find_place key (place ∷ places) = ap (λ o. cond (same key place.spelled) (Some place) o) (find_place key places) ∙ at (same key place.spelled) (place_with key places)
  where
    at : (b : Bool) (o : Option ℕ) → cond b (Some place) (option_and_then (slice_get places) o) ≡ option_and_then (slice_get (place ∷ places)) (cond b (Some 0) (option_map suc o))
    at true o = refl
    at false None = refl
    at false (Some i) = refl

-- the place that is found is there, and has the key
pub record IsFound (key : Text) (places : List Place) (i : ℕ) (place : Place) : Type 0 where
  pub there : slice_get places i ≡ Some place
  pub alike : same key place.spelled ≡ true

pub found_place : (key : Text) (places : List Place) (i : ℕ) → place_with key places ≡ Some i → (place : Place) × IsFound key places i place
found_place key [] i e = absurd (none-some i e)
found_place key (place ∷ places) i e = at (same key place.spelled) (place_with key places) refl (λ j h. found_place key places j h) e
  where
    at : (b : Bool) (o : Option ℕ) → same key place.spelled ≡ b → ((j : ℕ) → o ≡ Some j → (found : Place) × IsFound key places j found) → cond b (Some 0) (option_map suc o) ≡ Some i
        → (found : Place) × IsFound key (place ∷ places) i found
    at true o s later is = subst (λ (k : ℕ). (found : Place) × IsFound key (place ∷ places) k found) (same_Some 0 i is) (place, record { there = refl; alike = s })
    at false None s later is = absurd (none-some i is)
    at false (Some j) s later is =
        let found = later j refl in
        subst (λ (k : ℕ). (found : Place) × IsFound key (place ∷ places) k found) (same_Some (suc j) i is) (found.0, record { there = found.1.there; alike = found.1.alike })

pub awaited_is : (key : Text) (places : List Place) → is_awaited key places ≡ is_some (awaiting key places)
awaited_is key places = ap (λ o. option_map_or (λ (place : Place). is_none place.entry) o false) (find_place key places) ∙ at (place_with key places) refl
  where
    at : (o : Option ℕ) → place_with key places ≡ o → option_map_or (λ (place : Place). is_none place.entry) (option_and_then (slice_get places) o) false ≡ is_some (option_and_then (if_empty places) o)
    at None e = refl
    at (Some i) e = let found = found_place key places i e in
        ap (λ o. option_map_or (λ (place : Place). is_none place.entry) o false) found.1.there
        ∙ empty found.0.entry
        ∙ ap (λ (o : Option Place). is_some (cond (is_none (option_and_then (λ (place : Place). place.entry) o)) (Some i) None)) (sym found.1.there)
      where
        empty : (o : Option ℕ) → is_none o ≡ is_some (cond (is_none o) (Some i) None)
        empty None = refl
        empty (Some n) = refl

-- a place that awaits an entry is that of the key
pub awaiting_found : (key : Text) (places : List Place) (i : ℕ) → awaiting key places ≡ Some i → place_with key places ≡ Some i
awaiting_found key places i e = at (place_with key places) e
  where
    at : (o : Option ℕ) → option_and_then (if_empty places) o ≡ Some i → o ≡ Some i
    at None h = absurd (none-some i h)
    at (Some j) h = same_if (is_none (holder places j)) h
      where
        same_if : (b : Bool) → cond b (Some j) None ≡ Some i → Some j ≡ Some i
        same_if true s = s
        same_if false s = absurd (none-some i s)

-- ---- taking and naming

pub taken_set : (entry : EntryTexts) (n : ℕ) (places : List Place) (i : ℕ) (place : Place) → place_with entry.key places ≡ Some i → slice_get places i ≡ Some place
    → taken entry n places ≡ set places i (held_by entry n place)
taken_set entry n [] i place e at = absurd (none-some i e)
taken_set entry n (first ∷ places) i place e at = step (same entry.key first.spelled) (place_with entry.key places) (λ j k h there. taken_set entry n places k place h there) refl e
  where
    step : (b : Bool) (o : Option ℕ) → ((j k : ℕ) → place_with entry.key places ≡ Some k → slice_get places k ≡ Some place → taken entry n places ≡ set places k (held_by entry n place)) → place_with entry.key places ≡ o
        → cond b (Some 0) (option_map suc o) ≡ Some i → cond b (held_by entry n first ∷ places) (first ∷ taken entry n places) ≡ set (first ∷ places) i (held_by entry n place)
    step true o later s is = at_zero i (same_Some 0 i is) at
      where
        at_zero : (k : ℕ) → 0 ≡ k → slice_get (first ∷ places) k ≡ Some place → held_by entry n first ∷ places ≡ set (first ∷ places) k (held_by entry n place)
        at_zero zero z there = ap (λ (p : Place). held_by entry n p ∷ places) (same_Some first place there)
        at_zero (suc k) z there = absurd (omega (arith, z))
    step false None later s is = absurd (none-some i is)
    step false (Some j) later s is = at_suc i (same_Some (suc j) i is) at
      where
        at_suc : (k : ℕ) → suc j ≡ k → slice_get (first ∷ places) k ≡ Some place → first ∷ taken entry n places ≡ set (first ∷ places) k (held_by entry n place)
        at_suc zero z there = absurd (omega (arith, z))
        at_suc (suc k) z there = let jk : j ≡ k = omega (arith, z) in ap (λ l. first ∷ l) (later j k (s ∙ ap Some jk) there)

pub named_set : (key : Text) (places : List Place) (i : ℕ) (place : Place) → place_with key places ≡ Some i → slice_get places i ≡ Some place
    → named key places ≡ set places i (named_again place)
named_set key [] i place e at = absurd (none-some i e)
named_set key (first ∷ places) i place e at = step (same key first.spelled) (place_with key places) (λ j k h there. named_set key places k place h there) refl e
  where
    step : (b : Bool) (o : Option ℕ) → ((j k : ℕ) → place_with key places ≡ Some k → slice_get places k ≡ Some place → named key places ≡ set places k (named_again place)) → place_with key places ≡ o
        → cond b (Some 0) (option_map suc o) ≡ Some i → cond b (named_again first ∷ places) (first ∷ named key places) ≡ set (first ∷ places) i (named_again place)
    step true o later s is = at_zero i (same_Some 0 i is) at
      where
        at_zero : (k : ℕ) → 0 ≡ k → slice_get (first ∷ places) k ≡ Some place → named_again first ∷ places ≡ set (first ∷ places) k (named_again place)
        at_zero zero z there = ap (λ (p : Place). named_again p ∷ places) (same_Some first place there)
        at_zero (suc k) z there = absurd (omega (arith, z))
    step false None later s is = absurd (none-some i is)
    step false (Some j) later s is = at_suc i (same_Some (suc j) i is) at
      where
        at_suc : (k : ℕ) → suc j ≡ k → slice_get (first ∷ places) k ≡ Some place → first ∷ named key places ≡ set (first ∷ places) k (named_again place)
        at_suc zero z there = absurd (omega (arith, z))
        at_suc (suc k) z there = let jk : j ≡ k = omega (arith, z) in ap (λ l. first ∷ l) (later j k (s ∙ ap Some jk) there)

pub named_new : (key : Text) (places : List Place) → place_with key places ≡ None → named key places ≡ places ++ named_place key ∷ []
named_new key [] e = refl
named_new key (first ∷ places) e = step (same key first.spelled) (place_with key places) (λ h. named_new key places h) refl e
  where
    step : (b : Bool) (o : Option ℕ) → (place_with key places ≡ None → named key places ≡ places ++ named_place key ∷ []) → place_with key places ≡ o → cond b (Some 0) (option_map suc o) ≡ None
        → cond b (named_again first ∷ places) (first ∷ named key places) ≡ first ∷ (places ++ named_place key ∷ [])
    step true o later s is = absurd (none-some 0 (sym is))
    step false None later s is = ap (λ l. first ∷ l) (later s)
    step false (Some j) later s is = absurd (none-some (suc j) (sym is))

-- ---- keys of places

-- a place with the same key in its stead changes nothing
pub keys_set : (text : Text) (places : List Place) (i : ℕ) (place other : Place) → slice_get places i ≡ Some place → folded other.spelled ≡ folded place.spelled
    → place_with text (set places i other) ≡ place_with text places
keys_set text places i place other at e =
    ap (first_same text) (moved places i) ∙ first_set text place.spelled other.spelled (keys_in places) i (spelled_at places i at) e
  where
    moved : (places : List Place) (i : ℕ) → keys_in (set places i other) ≡ set (keys_in places) i other.spelled
    moved [] i = refl
    moved (p ∷ places) zero = refl
    moved (p ∷ places) (suc i) = ap (λ l. p.spelled ∷ l) (moved places i)

    spelled_at : (places : List Place) (i : ℕ) → slice_get places i ≡ Some place → slice_get (keys_in places) i ≡ Some place.spelled
    spelled_at [] i h = absurd (none-some place h)
    spelled_at (p ∷ places) zero h = ap (λ (q : Place). Some q.spelled) (same_Some p place h)
    spelled_at (p ∷ places) (suc i) h = spelled_at places i h

-- the place that an entry is taken for keeps its key
pub held_key : (entry : EntryTexts) (n : ℕ) (place : Place) → same entry.key place.spelled ≡ true → folded (held_by entry n place).spelled ≡ folded place.spelled
held_key entry n place s = at place.is_cited
  where
    at : (b : Bool) → folded (cond b place.spelled entry.key) ≡ folded place.spelled
    at true = refl
    at false = same-true entry.key place.spelled s

-- ---- counts

counts_taken : (m : ℕ) (entry : EntryTexts) (n : ℕ) (places : List Place) → CountsAtMost m places → CountsAtMost m (taken entry n places)
counts_taken m entry n [] all = tt
counts_taken m entry n (place ∷ places) all = at (same entry.key place.spelled) (counts_taken m entry n places all.1)
  where
    at : (b : Bool) → CountsAtMost m (taken entry n places) → CountsAtMost m (cond b (held_by entry n place ∷ places) (place ∷ taken entry n places))
    at true later = (all.0, all.1)
    at false later = (all.0, later)

pub counts_more : (m : ℕ) (places : List Place) → CountsAtMost m places → CountsAtMost (suc m) places
counts_more m [] all = tt
counts_more m (place ∷ places) all = let le = all.0 in (omega (arith, le), counts_more m places all.1)

pub counts_named : (m : ℕ) (key : Text) (places : List Place) → CountsAtMost m places → CountsAtMost (suc m) (named key places)
counts_named m key [] all = (omega arith, tt)
counts_named m key (place ∷ places) all = at (same key place.spelled) (counts_named m key places all.1)
  where
    at : (b : Bool) → CountsAtMost (suc m) (named key places) → CountsAtMost (suc m) (cond b (named_again place ∷ places) (place ∷ named key places))
    at true later = let le = all.0 in (omega (arith, le), counts_more m places all.1)
    at false later = let le = all.0 in (omega (arith, le), later)

pub counts_held : (m : ℕ) (entry : EntryTexts) (n : ℕ) (places : List Place) → CountsAtMost m places → CountsAtMost m (taken entry n places)
counts_held = counts_taken

pub counts_read : (m : ℕ) (entry : EntryTexts) (n : ℕ) (places : List Place) → CountsAtMost m places → CountsAtMost (suc m) (read_entry entry n places)
counts_read m entry n places all = at (is_awaited entry.key places) (crossref_text entry)
  where
    at : (b : Bool) (o : Option Text) → CountsAtMost (suc m) (cond b (option_map_or (λ text. named text (taken entry n places)) o (taken entry n places)) places)
    at false o = counts_more m places all
    at true None = counts_more m (taken entry n places) (counts_taken m entry n places all)
    at true (Some text) = counts_named m text (taken entry n places) (counts_taken m entry n places all)

pub count_at : (m : ℕ) (places : List Place) (i : ℕ) (place : Place) → CountsAtMost m places → slice_get places i ≡ Some place → place.count ≤ m
count_at m [] i place all at = absurd (none-some place at)
count_at m (first ∷ places) zero place all at = subst (λ (p : Place). p.count ≤ m) (same_Some first place at) all.0
count_at m (first ∷ places) (suc i) place all at = count_at m places i place all.1 at
