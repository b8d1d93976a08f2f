-- The list for some keys, in a file whose parents are last, is the cited list of the dialect, up to the order of added parents.
use Rattle.std.proofs.Common.{◌≡◌, ◌∙◌, ℕ, suc, ◌+◌, ◌<◌, ◌==◌, nat_lt, nat_le, Bool, true, false, cond, not, ◌&&◌, ◌||◌, List, [], ◌∷◌, ◌++◌, Option, Some, None, is_some, unwrap_or, option_map, option_and_then, slice_get, length, map, find, filter, filter_map, count_by, Contains, ◌⊎◌, inl, inr, ⊎_elim, refl, sym, ap, ap₂, arith, zero-add}
use Rattle.std.specs.List.{list_any, enumerate_from, cons_option, AllByRecursion}
use Rattle.std.specs.Option.{option_map_or}
use Rattle.std.proofs.lemmas.Bool.{cases_Bool, cond-true, cond-false, and_left, or_left}
use Rattle.std.proofs.lemmas.Option.{none-some, same_Some}
use Rattle.std.proofs.lemmas.List.Folds.{list_any-append}
use Rattle.std.proofs.lemmas.List.Elements.{filter_map-append}
use Rattle.bib_spec.specs.Text.{Text, folded, same}
use Rattle.bib_spec.specs.Records.{EntryTexts, RecordField, crossref_text, entry_named, target_of, other_than, parent, own_fields, with_inherited, default_depth, ancestors, record_of, numbers_of, is_parent_of, with_parents, cites_all, listed}
use Rattle.bib_spec.proofs.Names.{same-true, true-same}
use Rattle.bib_spec.proofs.Parents.{parent_within}
use Rattle.bib_spec.proofs.Lineages.{parent-alone-at-depth-1}
use Rattle.bibtex_spec.specs.Places.{are_all_cited, is_star, Place}
use Rattle.bibtex_spec.specs.Listed.{first_same, place_with, holder, crossref_at, is_missing, within, place_named, parent_place, up_from, is_enough, ListedRecord, is_shown, crossref_spelling, shown_place, shown_crossref, givers, listed_record, record_at, listed_as_bibtex}
use Rattle.bibtex_spec.specs.ListLaws.{IsOrdinary, ParentsAreLast, AreOrdinaryKeys, as_listed}
use Rattle.bibtex_laws.specs.KeyLists.{listed_parent_key, cited_record}
use Rattle.bibtex_laws.proofs.StarPlaces.{any_alike}
use Rattle.bibtex_laws.proofs.DialectRecords.{key_get, up_none}
use Rattle.bibtex_laws.proofs.NumberLists.{is_in, filtered_is}
use Rattle.bibtex_laws.proofs.EachOnce.{all_at, all_itself}
use Rattle.bibtex_laws.proofs.KeyPlaces.{KeepsKeys}
use Rattle.bibtex_laws.proofs.CitedReading.{counted_text, cited_text, texts_are, named_there, place_keeps, cited_is, count_is, entry_from, names_parent, silent}
use Rattle.bibtex_laws.proofs.KeyRecords.{get_mapped, in_range, number_low, each_place, first_there, found_same, found_of_all, cited, xs, later, f, places, numbers, cited_contained, places_are, numbers_are, found_entry, held_by_key, cited_found, IsKnown, known, own_spelling, cited_member, parent_text, count_member}

-- the first text that is the same, of places with the keys of texts
first_kept : (t : Text) (f : Text → Place) → KeepsKeys f → (ys : List Text) → place_with t (map f ys) ≡ first_same t ys
first_kept t f keeps [] = refl
first_kept t f keeps (y ∷ ys) = ap₂ (λ (b : Bool) (o : Option ℕ). cond b (Some 0) (option_map suc o)) (keeps t y) (first_kept t f keeps ys)

-- no key is cited but `*`, so that the list of the dialect has its own entries
no_star_alone : (keys : List Text) → are_all_cited keys ≡ false → cites_all keys ≡ false
no_star_alone [] plain = refl
no_star_alone (key ∷ []) plain = only (is_star key) plain
  where
    only : (b : Bool) → (b || false) ≡ false → b ≡ false
    only true is = is
    only false is = refl
no_star_alone (key ∷ other ∷ keys) plain = refl

module _ (entries : List EntryTexts) (keys : List Text) (ord : IsOrdinary entries) (last : ParentsAreLast entries) (plain : AreOrdinaryKeys entries keys) (least : ℕ) where
  abbrev texts : List Text
  texts = xs entries keys ord last plain

  abbrev place : Text → Place
  place = f entries keys ord last plain

  abbrev ps : List Place
  ps = places entries keys ord last plain

  abbrev ns : List ℕ
  ns = numbers entries keys ord last plain

  abbrev ks : List Text
  ks = cited entries keys ord last plain

  abbrev parents : ℕ → Option ℕ
  parents = parent_place entries keys ps

  -- ---- which entries the dialect lists

  abbrev pub is_added : ℕ → Bool
  is_added m = not (is_in m ns) && nat_le least (count_by (is_parent_of entries m) ns)

  abbrev pub dialects_parents : List ℕ
  dialects_parents = filter is_added (numbers_of entries)

  pub listed_are : listed entries keys least ≡ ns ++ dialects_parents
  listed_are = cond-false (cites_all keys) (numbers_of entries) (with_parents entries least ns) (no_star_alone keys plain.no_star)

  pub enough_is : (y : Text) (m : ℕ) → (place y).entry ≡ Some m → is_enough false least (place y) ≡ is_in m (listed entries keys least)
  enough_is y m held =
      let one = found_entry entries keys ord last plain y m held in
      let cited_ : (place y).is_cited ≡ is_in m ns =
      cited_is entries ks (length entries) y ∙ sym (any_alike one.0.key y ks one.2) ∙ sym (cited_member entries keys ord last plain m one.0 one.1) in
      let counted : (place y).count ≡ count_by (is_parent_of entries m) ns =
      count_is entries ks (length entries) y ∙ count_member entries keys ord last plain y m one.0 one.1 one.2 in
      ap₂ (λ (b : Bool) (k : ℕ). b || nat_le least k) cited_ counted
      ∙ either (is_in m ns) (nat_le least (count_by (is_parent_of entries m) ns))
      ∙ ap (λ (b : Bool). is_in m ns || b) (sym (filtered_is is_added m 0 (length entries) (omega arith) (low y m held)))
      ∙ sym (list_any-append (λ k. k == m) ns dialects_parents)
      ∙ sym (ap (is_in m) listed_are)
    where
      either : (b c : Bool) → (b || c) ≡ (b || (not b && c))
      either true c = refl
      either false c = refl

      low : (y : Text) (m : ℕ) → (place y).entry ≡ Some m → m < 0 + length entries
      low y m held = let less : m < length entries = (entry_from entries ks (length entries) y m held).0 in omega (arith, less)

  -- ---- the parent place of a place

  place_at : (i : ℕ) (x : Text) → slice_get texts i ≡ Some x → slice_get ps i ≡ Some (place x)
  place_at i x at = get_mapped place texts i x at

  held_at : (i : ℕ) (x : Text) → slice_get texts i ≡ Some x → holder ps i ≡ (place x).entry
  held_at i x at = ap (option_and_then (λ (p : Place). p.entry)) (place_at i x at)

  crossref_of : (i : ℕ) (x : Text) → slice_get texts i ≡ Some x → crossref_at entries ps i ≡ option_and_then crossref_text (option_and_then (slice_get entries) (place x).entry)
  crossref_of i x at = ap (λ (o : Option ℕ). option_and_then crossref_text (option_and_then (slice_get entries) o)) (held_at i x at)

  crossref_is : (i : ℕ) (x : Text) (n : ℕ) (entry : EntryTexts) → slice_get texts i ≡ Some x → (place x).entry ≡ Some n → slice_get entries n ≡ Some entry
      → crossref_at entries ps i ≡ crossref_text entry
  crossref_is i x n entry at held there =
      crossref_of i x at
      ∙ ap (λ (o : Option ℕ). option_and_then crossref_text (option_and_then (slice_get entries) o)) held
      ∙ ap (option_and_then crossref_text) there

  named_is : (t : Text) → place_named entries keys ps t ≡ first_same t texts
  named_is t =
      cond-false (are_all_cited keys && is_missing entries t && list_any (same t) ks) (option_and_then (within ps) (first_same t ks)) (place_with t ps)
      (and_left (are_all_cited keys && is_missing entries t) (list_any (same t) ks) (and_left (are_all_cited keys) (is_missing entries t) plain.no_star))
      ∙ first_kept t place (place_keeps entries ks (length entries)) texts

  -- the place of a crossref, and its entry, which is the parent
  abbrev HasParentPlace : ℕ → ℕ → EntryTexts → Type 0
  HasParentPlace i n entry = (t : Text) × (j : ℕ) × (y : Text) × (crossref_text entry ≡ Some t) × (parents i ≡ Some j) × (slice_get texts j ≡ Some y) × (same t y ≡ true) × (parent entries n ≡ (place y).entry)

  module _ (i : ℕ) (x : Text) (at : slice_get texts i ≡ Some x) (n : ℕ) (held : (place x).entry ≡ Some n) (entry : EntryTexts) (there : slice_get entries n ≡ Some entry) where
    key_is : same entry.key x ≡ true
    key_is =
        let one = found_entry entries keys ord last plain x n held in
        ap (λ (e : EntryTexts). same e.key x) (same_Some entry one.0 (sym there ∙ one.1)) ∙ one.2

    any_at : (ys : List Text) (k : ℕ) (y : Text) → slice_get ys k ≡ Some y → list_any (same y) ys ≡ true
    any_at ys k y found = all_at (λ z. list_any (same z) ys ≡ true) ys k y (all_itself ys) found

    -- an entry with a crossref is cited
    is_cited_ : (t : Text) → crossref_text entry ≡ Some t → list_any (same entry.key) ks ≡ true
    is_cited_ t says = ⊎_elim
        (λ is. is)
        (λ other. absurd (none-some t (sym (silent entries ks ord last n entry there (length entries) (any_alike entry.key x texts key_is ∙ any_at texts i x at) other) ∙ says)))
        (cases_Bool (list_any (same entry.key) ks))

    counted : (t : Text) → crossref_text entry ≡ Some t → cited_text entries ks n ≡ Some t
    counted t says =
        ap (option_and_then (counted_text ks)) there
        ∙ cond-true (list_any (same entry.key) ks) (crossref_text entry) None (is_cited_ t says)
        ∙ says

    parent_found : (t y : Text) → crossref_text entry ≡ Some t → same t y ≡ true → parent entries n ≡ (place y).entry
    parent_found t y says alike = by_place (place y).entry refl (parent entries n) refl
      where
        by_place : (o : Option ℕ) → (place y).entry ≡ o → (p : Option ℕ) → parent entries n ≡ p → p ≡ o
        by_place None gone None is = refl
        by_place None gone (Some m) is =
            let other = in_range entries m (parent_within entries n m is) in
            let one = parent_text entries keys ord last plain n m entry other.0 there other.1 is in
            let named : same other.0.key y ≡ true =
            true-same other.0.key y (same-true other.0.key one.0 one.2 ∙ ap folded (same_Some one.0 t (sym one.1 ∙ says)) ∙ same-true t y alike) in
            absurd (none-some m (sym gone ∙ held_by_key entries keys ord last plain y m other.0 other.1 named))
        by_place (Some m) holds p is =
            let one = found_entry entries keys ord last plain y m holds in
            sym is ∙ names_parent entries ks ord last n m entry one.0 t there says one.1 (true-same t one.0.key (same-true t y alike ∙ sym (same-true one.0.key y one.2)))

    parents_are : ((crossref_text entry ≡ None) × (parent entries n ≡ None)) ⊎ HasParentPlace i n entry
    parents_are = by_text (crossref_text entry) refl
      where
        by_text : (o : Option Text) → crossref_text entry ≡ o → ((crossref_text entry ≡ None) × (parent entries n ≡ None)) ⊎ HasParentPlace i n entry
        by_text None says = inl (says, ap (λ (o : Option EntryTexts). option_and_then (other_than n) (option_and_then (target_of entries) o)) there ∙ ap (λ (o : Option Text). option_and_then (other_than n) (option_and_then (entry_named entries) o)) says)
        by_text (Some t) says =
            let first = first_there t texts (named_there entries ks (length entries) n t (number_low entries n entry there) (counted t says)) in
            inr (
              t,
              first.0,
              first.1,
              says,
              ap (option_and_then (place_named entries keys ps)) (crossref_is i x n entry at held there ∙ says) ∙ named_is t ∙ first.2,
              first.3,
              first.4,
              parent_found t first.1 says first.4,
            )

    -- a parent has no parent place
    parent_ends : (j : ℕ) (y : Text) → slice_get texts j ≡ Some y → parent entries n ≡ (place y).entry → parents j ≡ None
    parent_ends j y found is = ap (option_and_then (place_named entries keys ps)) (by_place (place y).entry refl)
      where
        by_place : (o : Option ℕ) → (place y).entry ≡ o → crossref_at entries ps j ≡ None
        by_place None gone = crossref_of j y found ∙ ap (λ (o : Option ℕ). option_and_then crossref_text (option_and_then (slice_get entries) o)) gone
        by_place (Some m) holds =
            let one = found_entry entries keys ord last plain y m holds in
            crossref_is j y m one.0 found holds one.1 ∙ last.no_chain n m one.0 (is ∙ holds) one.1

    givers_are : givers entries keys ps i ≡ ancestors entries default_depth n
    givers_are = ⊎_elim
        (λ none_.
        ap (λ (o : Option ℕ). filter_map (holder ps) (option_map_or (λ j. j ∷ cond (nat_lt j i) (up_from parents i j) []) o []))
        (ap (option_and_then (place_named entries keys ps)) (crossref_is i x n entry at held there ∙ none_.0))
        ∙ sym (parent-alone-at-depth-1 entries n ∙ ap (λ (o : Option ℕ). option_map_or (λ m. m ∷ []) o []) none_.1))
        (λ one.
        let j : ℕ = one.1 in
        ap (λ (o : Option ℕ). filter_map (holder ps) (option_map_or (λ j. j ∷ cond (nat_lt j i) (up_from parents i j) []) o [])) one.4
        ∙ ap (λ (l : List ℕ). filter_map (holder ps) (j ∷ l)) (ends (nat_lt j i) (up_from parents i j) (up_none parents i j (parent_ends j one.2 one.5 one.7)))
        ∙ ap (λ (o : Option ℕ). cons_option o []) (held_at j one.2 one.5 ∙ sym one.7)
        ∙ alone (parent entries n)
        ∙ sym (parent-alone-at-depth-1 entries n))
        parents_are
      where
        ends : (b : Bool) (l : List ℕ) → l ≡ [] → cond b l [] ≡ []
        ends true l is = is
        ends false l is = refl

        alone : (o : Option ℕ) → cons_option o [] ≡ option_map_or (λ m. m ∷ []) o []
        alone None = refl
        alone (Some m) = refl

    -- how the crossref is shown
    spelling_is : (t y : Text) (j m : ℕ) (other : EntryTexts) → slice_get texts j ≡ Some y → same t y ≡ true → (place y).entry ≡ Some m → slice_get entries m ≡ Some other
        → crossref_spelling ks t (place y) ≡ other.key
    spelling_is t y j m other found alike holds stands = by_cited (find (same t) ks) refl
      where
        by_cited : (o : Option Text) → find (same t) ks ≡ o → unwrap_or o (place y).spelled ≡ other.key
        by_cited None none_ = own_spelling entries keys ord last plain y m other (all_at (IsKnown entries keys ord last plain) texts j y (known entries keys ord last plain) found) holds stands
        by_cited (Some c) is =
            let has = found_of_all (Contains keys) t ks c (cited_contained entries keys ord last plain) is in
            let one = found_entry entries keys ord last plain y m holds in
            let its : same other.key c ≡ true =
            true-same other.key c (ap (λ (e : EntryTexts). folded e.key) (same_Some other one.0 (sym stands ∙ one.1)) ∙ same-true one.0.key y one.2 ∙ sym (same-true t y alike) ∙ same-true t c (found_same t ks c is)) in
            same_Some c other.key (sym (plain.spelled c m has (sym (cited_found entries keys ord last plain c has) ∙ held_by_key entries keys ord last plain c m other stands its)) ∙ key_get entries m other stands)

    crossref_shown : shown_crossref entries keys least ps i ≡ listed_parent_key entries keys least n
    crossref_shown = ⊎_elim
        (λ none_.
        ap (λ (o : Option Text). option_and_then (λ text. option_map (crossref_spelling ks text) (option_and_then (shown_place keys least ps) (parents i))) o) (crossref_is i x n entry at held there ∙ none_.0)
        ∙ sym (ap (λ (o : Option ℕ). key_shown o) none_.1))
        (λ one.
        ap₂ (λ (o : Option Text) (p : Option ℕ). option_and_then (λ text. option_map (crossref_spelling ks text) (option_and_then (shown_place keys least ps) p)) o)
        (crossref_is i x n entry at held there ∙ one.3) one.4
        ∙ ap (λ (o : Option Place). option_map (crossref_spelling ks one.0) (option_and_then (λ p. cond (is_shown (are_all_cited keys) least p) (Some p) None) o)) (place_at one.1 one.2 one.5)
        ∙ ap (λ (a : Bool). option_map (crossref_spelling ks one.0) (cond (is_shown a least (place one.2)) (Some (place one.2)) None)) plain.no_star
        ∙ by_place one.0 one.2 one.1 one.5 one.6 (place one.2).entry refl
        ∙ sym (ap key_shown one.7))
        parents_are
      where
        key_shown : Option ℕ → Option Text
        key_shown o = option_map (λ e. e.key) (option_and_then (slice_get entries) (option_and_then (λ m. cond (is_in m (listed entries keys least)) (Some m) None) o))

        by_place : (t y : Text) (j : ℕ) → slice_get texts j ≡ Some y → same t y ≡ true → (o : Option ℕ) → (place y).entry ≡ o
            → option_map (crossref_spelling ks t) (cond (is_some o && is_enough false least (place y)) (Some (place y)) None) ≡ key_shown o
        by_place t y j found alike None gone = refl
        by_place t y j found alike (Some m) holds =
            let one = found_entry entries keys ord last plain y m holds in
            ap (λ (b : Bool). option_map (crossref_spelling ks t) (cond b (Some (place y)) None)) (enough_is y m holds)
            ∙ split (is_in m (listed entries keys least)) one.0 one.1 (spelling_is t y j m one.0 found alike holds one.1)
          where
            split : (b : Bool) (other : EntryTexts) → slice_get entries m ≡ Some other → crossref_spelling ks t (place y) ≡ other.key
                → option_map (crossref_spelling ks t) (cond b (Some (place y)) None) ≡ option_map (λ (e : EntryTexts). e.key) (option_and_then (slice_get entries) (cond b (Some m) None))
            split true other stands is = ap (λ (k : Text). Some k) is ∙ sym (ap (option_map (λ (e : EntryTexts). e.key)) stands)
            split false other stands is = refl

    record_is : listed_record entries keys least ps i (place x) entry ≡ as_listed (listed_parent_key entries keys least n) (record_of default_depth entries n entry)
    record_is =
        ap (λ (k : Text). let r : ListedRecord = record { kind_name = folded entry.kind; key = k; fields = with_inherited entries (own_fields entry) (givers entries keys ps i); crossref = shown_crossref entries keys least ps i } in r)
        (own_spelling entries keys ord last plain x n entry (all_at (IsKnown entries keys ord last plain) texts i x (known entries keys ord last plain) at) held there)
        ∙ ap₂ (λ (fields : List RecordField) (key : Option Text). let r : ListedRecord = record { kind_name = folded entry.kind; key = entry.key; fields = fields; crossref = key } in r)
        (ap (with_inherited entries (own_fields entry)) givers_are) crossref_shown

  -- ---- the list

  -- the entry of the place of a text, if the place is listed
  abbrev pub shown : Text → Option ℕ
  shown x = cond (is_enough false least (place x)) (place x).entry None

  record_shown : (i : ℕ) (x : Text) → slice_get texts i ≡ Some x → record_at entries keys least ps (i, place x) ≡ option_and_then (cited_record entries keys least) (shown x)
  record_shown i x at =
      ap (λ (a : Bool). cond (is_enough a least (place x)) (option_map (listed_record entries keys least ps i (place x)) (option_and_then (slice_get entries) (place x).entry)) None) plain.no_star
      ∙ split (is_enough false least (place x)) (place x).entry refl
    where
      split : (b : Bool) (o : Option ℕ) → (place x).entry ≡ o
          → cond b (option_map (listed_record entries keys least ps i (place x)) (option_and_then (slice_get entries) o)) None ≡ option_and_then (cited_record entries keys least) (cond b o None)
      split false o held = refl
      split true None held = refl
      split true (Some n) held =
          let one = found_entry entries keys ord last plain x n held in
          ap (option_map (listed_record entries keys least ps i (place x))) one.1
          ∙ ap (λ (r : ListedRecord). Some r) (record_is i x at n held one.0 one.1)
          ∙ sym (ap (λ (o : Option EntryTexts). option_map (as_listed (listed_parent_key entries keys least n)) (option_map (record_of default_depth entries n) o)) one.1)

  shown_then : (ys : List Text) → filter_map (λ x. option_and_then (cited_record entries keys least) (shown x)) ys ≡ filter_map (cited_record entries keys least) (filter_map shown ys)
  shown_then [] = refl
  shown_then (y ∷ ys) = split (shown y) (shown_then ys)
    where
      split : (o : Option ℕ) → filter_map (λ x. option_and_then (cited_record entries keys least) (shown x)) ys ≡ filter_map (cited_record entries keys least) (filter_map shown ys)
          → cons_option (option_and_then (cited_record entries keys least) o) (filter_map (λ x. option_and_then (cited_record entries keys least) (shown x)) ys)
          ≡ filter_map (cited_record entries keys least) (cons_option o (filter_map shown ys))
      split None rest = rest
      split (Some n) rest = ap (cons_option (cited_record entries keys least n)) rest

  -- cited places that are held are listed
  cited_shown : (ys : List Text) → AllByRecursion (Contains keys) ys → AllByRecursion (λ y. list_any (same y) ks ≡ true) ys → filter_map shown ys ≡ filter_map (entry_named entries) ys
  cited_shown [] has are = refl
  cited_shown (y ∷ ys) has are =
      ap₂ cons_option
      (cond-true (is_enough false least (place y)) (place y).entry None (or_left (place y).is_cited (nat_le least (place y).count) (cited_is entries ks (length entries) y ∙ are.0))
      ∙ cited_found entries keys ord last plain y has.0)
      (cited_shown ys has.1 are.1)

  abbrev pub added_numbers : List ℕ
  added_numbers = filter_map shown (later entries keys ord last plain)

  pub records_are : listed_as_bibtex entries keys least ≡ filter_map (cited_record entries keys least) (ns ++ added_numbers)
  records_are =
      ap (λ (qs : List Place). filter_map (record_at entries keys least qs) (enumerate_from 0 qs)) (places_are entries keys ord last plain)
      ∙ each_place (record_at entries keys least ps) (λ x. option_and_then (cited_record entries keys least) (shown x)) place 0 texts
      (λ i x at. ap (λ (k : ℕ). record_at entries keys least ps (k, place x)) (zero-add i) ∙ record_shown i x at)
      ∙ shown_then texts
      ∙ ap (filter_map (cited_record entries keys least))
      (ap (filter_map shown) (texts_are entries ks (length entries))
      ∙ filter_map-append shown ks (later entries keys ord last plain)
      ∙ ap (λ (l : List ℕ). l ++ added_numbers) (cited_shown ks (cited_contained entries keys ord last plain) (all_itself ks) ∙ numbers_are entries keys ord last plain))
