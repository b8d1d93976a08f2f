-- The records of listed entries are those of the definition.
use Rattle.std.proofs.Common.{◌≡◌, ◌∙◌, ℕ, suc, ◌+◌, ◌<◌, ◌≤◌, Bool, true, false, cond, List, [], ◌∷◌, ◌++◌, Option, Some, None, option_map, option_and_then, slice_get, length, map, filter_map, refl, sym, ap, subst, arith, ⊎_elim}
use Rattle.std.specs.List.{list_any, enumerate_from, cons_option, AllByRecursion}
use Rattle.std.specs.Option.{option_map_or}
use Rattle.std.proofs.lemmas.Option.{none-some, same_Some, slice_get_cases}
use Rattle.bib_spec.specs.Text.{Text, folded}
use Rattle.bib_spec.specs.Records.{EntryTexts, crossref_text, own_fields, with_inherited}
use Rattle.bibtex_spec.specs.Places.{cited_keys, are_all_cited, keys_before_star, Place, has_key, cited_place, is_awaited, held_by, taken, named_again, named, read_entry, read_entries, added_place, read_any, read_all, places_of}
use Rattle.bibtex_spec.specs.Listed.{is_enough, ListedRecord, listed_record, record_at, listed_as_bibtex, shown_crossref, givers}
use Rattle.bibtex_places.specs.declared.lists.BibtexEntry.{BibtexEntry}
use Rattle.bibtex_places.specs.Lists.{listed_entry, entry_at, listed_entries, record_of_listed}

module _ (most : ℕ) where
  -- the entry that holds the place has a number below the count of entries
  abbrev IsBelow : Place → Type 0
  IsBelow place = (m : ℕ) → place.entry ≡ Some m → m < most

  abbrev AreBelow : List Place → Type 0
  AreBelow places = AllByRecursion IsBelow places

  one_below : (n : ℕ) → n < most → (m : ℕ) → Some n ≡ Some m → m < most
  one_below n lt m e = subst (λ (k : ℕ). k < most) (same_Some n m e) lt

  below_taken : (entry : EntryTexts) (n : ℕ) → n < most → (places : List Place) → AreBelow places → AreBelow (taken entry n places)
  below_taken entry n lt [] all = tt
  below_taken entry n lt (place ∷ places) all = at (has_key entry.key place) (below_taken entry n lt places all.1)
    where
      at : (b : Bool) → AreBelow (taken entry n places) → AreBelow (cond b (held_by entry n place ∷ places) (place ∷ taken entry n places))
      at true later = (one_below n lt, all.1)
      at false later = (all.0, later)

  below_named : (key : Text) (places : List Place) → AreBelow places → AreBelow (named key places)
  below_named key [] all = ((λ m e. absurd (none-some m e)), tt)
  below_named key (place ∷ places) all = at (has_key key place) (below_named key places all.1)
    where
      at : (b : Bool) → AreBelow (named key places) → AreBelow (cond b (named_again place ∷ places) (place ∷ named key places))
      at true later = (all.0, all.1)
      at false later = (all.0, later)

  below_read : (entry : EntryTexts) (n : ℕ) → n < most → (places : List Place) → AreBelow places → AreBelow (read_entry entry n places)
  below_read entry n lt places all = at (is_awaited entry.key places) (crossref_text entry)
    where
      now : AreBelow (taken entry n places)
      now = below_taken entry n lt places all

      at : (b : Bool) (o : Option Text) → AreBelow (cond b (option_map_or (λ text. named text (taken entry n places)) o (taken entry n places)) places)
      at false o = all
      at true None = now
      at true (Some text) = below_named text (taken entry n places) now

  below_entries : (n : ℕ) (places : List Place) (entries : List EntryTexts) → n + length entries ≤ most → AreBelow places → AreBelow (read_entries n places entries)
  below_entries n places [] le all = all
  below_entries n places (entry ∷ entries) le all =
      below_entries (suc n) (read_entry entry n places) entries (omega (arith, le)) (below_read entry n (omega (arith, le)) places all)

  below_push : (places : List Place) (place : Place) → AreBelow places → IsBelow place → AreBelow (places ++ place ∷ [])
  below_push [] place all one = (one, tt)
  below_push (first ∷ places) place all one = (all.0, below_push places place all.1 one)

  below_any : (cited : List Text) (entry : EntryTexts) (n : ℕ) → n < most → (places : List Place) → AreBelow places → AreBelow (read_any cited entry n places)
  below_any cited entry n lt places all = at (list_any (has_key entry.key) places) (is_awaited entry.key places)
    where
      at : (b c : Bool) → AreBelow (cond b (cond c (taken entry n places) places) (places ++ added_place cited entry n ∷ []))
      at true true = below_taken entry n lt places all
      at true false = all
      at false c = below_push places (added_place cited entry n) all (one_below n lt)

  below_all : (cited : List Text) (n : ℕ) (places : List Place) (entries : List EntryTexts) → n + length entries ≤ most → AreBelow places → AreBelow (read_all cited n places entries)
  below_all cited n places [] le all = all
  below_all cited n places (entry ∷ entries) le all =
      below_all cited (suc n) (read_any cited entry n places) entries (omega (arith, le)) (below_any cited entry n (omega (arith, le)) places all)

  below_cited : (keys : List Text) → AreBelow (map cited_place keys)
  below_cited [] = tt
  below_cited (key ∷ keys) = ((λ m e. absurd (none-some m e)), below_cited keys)

-- the entries that hold places are entries
pub places_below : (entries : List EntryTexts) (keys : List Text) → AreBelow (length entries) (places_of entries keys)
places_below entries keys = at (are_all_cited keys)
  where
    whole : 0 + length entries ≤ length entries
    whole = omega arith

    at : (b : Bool) → AreBelow (length entries) (cond b (read_all (cited_keys keys) 0 (map cited_place (keys_before_star keys)) entries) (read_entries 0 (map cited_place (cited_keys keys)) entries))
    at true = below_all (length entries) (cited_keys keys) 0 (map cited_place (keys_before_star keys)) entries whole (below_cited (length entries) (keys_before_star keys))
    at false = below_entries (length entries) 0 (map cited_place (cited_keys keys)) entries whole (below_cited (length entries) (cited_keys keys))

module _ (entries : List EntryTexts) (keys : List Text) (least : ℕ) (places : List Place) where
  records_along : (from : ℕ) (ps : List Place) → AreBelow (length entries) ps
      → map (record_of_listed entries) (filter_map (entry_at entries keys least places) (enumerate_from from ps)) ≡ map Some (filter_map (record_at entries keys least places) (enumerate_from from ps))
  records_along from [] all = refl
  records_along from (place ∷ ps) all = at (records_along (from + 1) ps all.1) (is_enough (are_all_cited keys) least place) place.entry refl
    where
      listed : List BibtexEntry
      listed = filter_map (entry_at entries keys least places) (enumerate_from (from + 1) ps)

      recorded : List ListedRecord
      recorded = filter_map (record_at entries keys least places) (enumerate_from (from + 1) ps)

      at : map (record_of_listed entries) listed ≡ map Some recorded → (b : Bool) (o : Option ℕ) → place.entry ≡ o
          → map (record_of_listed entries) (cons_option (cond b (option_map (listed_entry entries keys least places from place) o) None) listed)
          ≡ map Some (cons_option (cond b (option_map (listed_record entries keys least places from place) (option_and_then (slice_get entries) o)) None) recorded)
      at rest false o e = rest
      at rest true None e = rest
      at rest true (Some m) e = ⊎_elim
          (λ found. held found.0 found.2)
          (λ past. let le = past.0 in let lt = all.0 m e in absurd (omega (arith, le, lt)))
          (slice_get_cases entries m).1
        where
          record_from : Text → List ℕ → Option Text → EntryTexts → ListedRecord
          record_from key up named entry = record { kind_name = folded entry.kind; key = key; fields = with_inherited entries (own_fields entry) up; crossref = named }

          held : (entry : EntryTexts) → slice_get entries m ≡ Some entry
              → option_map (λ (entry : EntryTexts). record_from place.spelled (givers entries keys places from) (shown_crossref entries keys least places from) entry) (slice_get entries m) ∷ map (record_of_listed entries) listed
              ≡ map Some (cons_option (option_map (listed_record entries keys least places from place) (slice_get entries m)) recorded)
          held entry there =
              ap (λ o. option_map (λ (entry : EntryTexts). record_from place.spelled (givers entries keys places from) (shown_crossref entries keys least places from) entry) o ∷ map (record_of_listed entries) listed) there
              ∙ ap (λ l. Some (listed_record entries keys least places from place entry) ∷ l) rest
              ∙ ap (λ o. map Some (cons_option (option_map (listed_record entries keys least places from place) o) recorded)) (sym there)

-- the records of the listed entries, in order
pub records_are : (entries : List EntryTexts) (keys : List Text) (least : ℕ) → map (record_of_listed entries) (listed_entries entries keys least) ≡ map Some (listed_as_bibtex entries keys least)
records_are entries keys least = records_along entries keys least (places_of entries keys) 0 (places_of entries keys) (places_below entries keys)
