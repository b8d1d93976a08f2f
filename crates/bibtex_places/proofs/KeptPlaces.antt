-- Places as the code keeps them.
use Rattle.std.proofs.Common.{◌≡◌, ◌∙◌, ℕ, ◌<◌, ◌≤◌, Bool, true, false, cond, List, [], Option, Some, None, is_none, is_some, option_map, option_and_then, slice_get, get_or, length, set, map, refl, sym, ap, arith}
use Rattle.std.proofs.lemmas.Bool.{both_ways}
use Rattle.std.proofs.lemmas.List.{length-map, map-set}
use Rattle.std.proofs.lemmas.Option.{slice_get-map, slice_get_within, slice_get_read, same_Some}
use Rattle.bib_spec.specs.Text.{Text, folded, same}
use Rattle.bib_spec.specs.Records.{EntryTexts}
use Rattle.bibtex_spec.specs.Places as spec
use Rattle.bibtex_spec.specs.Places.{held_by, taken, named_again, named}
use Rattle.bibtex_spec.specs.Listed.{place_with}
use Rattle.bibtex_places.specs.declared.place.Place.{Place}
use Rattle.bibtex_places.specs.KeyTables.{Numbers, FindsKeys}
use Rattle.bibtex_places.specs.Seen.{seen}
use Rattle.bibtex_places.specs.Steps.{if_empty, awaiting, CountsAtMost}
use Rattle.bibtex_places.proofs.PlaceLists.{keys_in, found_place, taken_set, named_set, keys_set, held_key, count_at}

module _ (key : Text) (ps : List Place) (i : ℕ) (at : place_with key (map seen ps) ≡ Some i) where
  pub kept_within : i < length ps
  kept_within =
      let found = found_place key (map seen ps) i at in
      let lt = slice_get_within (map seen ps) i found.0 found.1.there in
      let long = length-map ps seen in
      omega (arith, lt, long)

  module _ (p : Place) (is : p ≡ get_or ps i p) where
    pub kept_at : slice_get (map seen ps) i ≡ Some (seen p)
    kept_at = slice_get-map seen ps i ∙ ap (option_map seen) (slice_get_read ps (length ps) i p refl kept_within is)

    awaits : (b : Bool) → is_none p.entry ≡ b → awaiting key (map seen ps) ≡ cond b (Some i) None
    awaits b e =
        ap (option_and_then (if_empty (map seen ps))) at
        ∙ ap (λ (o : Option spec.Place). cond (is_none (option_and_then (λ (place : spec.Place). place.entry) o)) (Some i) None) kept_at
        ∙ ap (λ c. cond c (Some i) None) e

    pub awaiting_some : is_some p.entry ≡ false → Some i ≡ awaiting key (map seen ps)
    awaiting_some e = sym (awaits true (empty p.entry e))
      where
        empty : (o : Option ℕ) → is_some o ≡ false → is_none o ≡ true
        empty None s = refl
        empty (Some n) s = absurd (both_ways true s refl)

    pub awaiting_none : is_some p.entry ≡ true → None ≡ awaiting key (map seen ps)
    awaiting_none e = sym (awaits false (full p.entry e))
      where
        full : (o : Option ℕ) → is_some o ≡ true → is_none o ≡ false
        full None s = absurd (both_ways false refl s)
        full (Some n) s = refl

    pub held_set : (entry : EntryTexts) (n : ℕ) (q : Place) → entry.key ≡ key → seen q ≡ held_by entry n (seen p) → map seen (set ps i q) ≡ taken entry n (map seen ps)
    held_set entry n q k e =
        map-set seen ps i q
        ∙ ap (set (map seen ps) i) e
        ∙ sym (taken_set entry n (map seen ps) i (seen p) (ap (λ (t : Text). place_with t (map seen ps)) k ∙ at) kept_at)

    pub named_kept : (q : Place) → seen q ≡ named_again (seen p) → map seen (set ps i q) ≡ named key (map seen ps)
    named_kept q e = map-set seen ps i q ∙ ap (set (map seen ps) i) e ∙ sym (named_set key (map seen ps) i (seen p) at kept_at)

    pub count_kept : (most : ℕ) → CountsAtMost most (map seen ps) → p.count ≤ most
    count_kept most all = count_at most (map seen ps) i (seen p) all kept_at

    alike : same key p.spelled ≡ true
    alike =
        let found = found_place key (map seen ps) i at in
        ap (λ (place : spec.Place). same key place.spelled) (same_Some (seen p) found.0 (sym kept_at ∙ found.1.there)) ∙ found.1.alike

    -- another spelling of the key leaves the table right
    finds_set : (table : Numbers) (q : Place) → FindsKeys table (keys_in (map seen ps)) → folded q.spelled ≡ folded p.spelled → FindsKeys table (keys_in (map seen (set ps i q)))
    finds_set table q finds e name =
        finds name ∙ sym (ap (place_with name) (map-set seen ps i q) ∙ keys_set name (map seen ps) i (seen p) (seen q) kept_at e)

    pub finds_held : (table : Numbers) (q : Place) (n : ℕ) → FindsKeys table (keys_in (map seen ps)) → ((entry : EntryTexts) → entry.key ≡ key → seen q ≡ held_by entry n (seen p)) → FindsKeys table (keys_in (map seen (set ps i q)))
    finds_held table q n finds held =
        let entry : EntryTexts = record { kind = []; key = key; fields = [] } in
        finds_set table q finds (ap (λ (place : spec.Place). folded place.spelled) (held entry refl) ∙ held_key entry n (seen p) alike)

    pub finds_named : (table : Numbers) (q : Place) → FindsKeys table (keys_in (map seen ps)) → seen q ≡ named_again (seen p) → FindsKeys table (keys_in (map seen (set ps i q)))
    finds_named table q finds e = finds_set table q finds (ap (λ (place : spec.Place). folded place.spelled) e)
