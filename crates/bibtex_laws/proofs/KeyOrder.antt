-- The parents that BibTeX adds are those that the dialect adds, in the order of their first cited children.
use Rattle.std.proofs.Common.{◌≡◌, ◌∙◌, ℕ, zero, suc, ◌<◌, ◌≤◌, ◌==◌, nat_lt, nat_le, Bool, true, false, cond, not, ◌&&◌, ◌||◌, List, [], ◌∷◌, ◌++◌, Option, Some, None, option_and_then, slice_get, length, filter_map, count_by, IsPermutation, Contains, ⊎_elim, refl, sym, ap, subst, arith, append-nil, eqb-true, ltb-true, ltb-false, leb-true, eq-or-lt_of_le, le_refl}
use Rattle.std.specs.List.{list_any, cons_option, AllByRecursion}
use Rattle.std.specs.Option.{option_map_or}
use Rattle.std.proofs.lemmas.Bool.{cases_Bool, cond-true, and_parts, or_left, or_right, false_from_ne_true, true≢false}
use Rattle.std.proofs.lemmas.Option.{none-some, same_Some}
use Rattle.std.proofs.lemmas.List.Folds.{list_any-append}
use Rattle.std.proofs.lemmas.List.Elements.{filter_map-append}
use Rattle.std.proofs.lemmas.List.Sorted.{IsPermutation-refl, IsPermutation-append}
use Rattle.bib_spec.specs.Text.{Text, folded, same}
use Rattle.bib_spec.specs.Records.{EntryTexts, crossref_text, parent, cited_by_key, is_parent_of, listed}
use Rattle.bib_spec.proofs.Names.{same-true, true-same, same_comm, both_true}
use Rattle.bibtex_spec.specs.Places.{cited_keys, Place}
use Rattle.bibtex_spec.specs.Listed.{is_enough}
use Rattle.bibtex_spec.specs.ListLaws.{IsOrdinary, ParentsAreLast, ParentsInOrder, AreOrdinaryKeys}
use Rattle.bibtex_laws.specs.KeyLists.{keys_list_the_dialects}
use Rattle.bibtex_laws.proofs.StarPlaces.{any_alike}
use Rattle.bibtex_laws.proofs.NumberLists.{is_in, NoneTwice, SameMembers, is_itself, filtered_is, filtered_far, filtered_rises, rises_once, Rises, rises_and, rising_alike, same_members_permute, member_contained, contained_member, count_none}
use Rattle.bibtex_laws.proofs.EachOnce.{all_both, all_itself, differ_parts}
use Rattle.bibtex_laws.proofs.KeyPlaces.{Differ}
use Rattle.bibtex_laws.proofs.CitedReading.{counted_text, is_text, later_read, cited_text, texts_after, later_texts, place_after, texts_are, texts_differ, named_there, there_from, counted_from, text_of, names_parent}
use Rattle.bibtex_laws.proofs.KeyRecords.{in_range, is_in_cons, later, cited_differ, found_entry, held_by_key, later_other, cited_member, parent_text, count_member}
use Rattle.bibtex_laws.proofs.KeyLists.{is_added, dialects_parents, listed_are, enough_is, shown, added_numbers, records_are}

module _ (entries : List EntryTexts) (keys : List Text) (ord : IsOrdinary entries) (last : ParentsAreLast entries) (plain : AreOrdinaryKeys entries keys) (least : ℕ) where
  abbrev ks : List Text
  ks = cited_keys keys

  abbrev ns : List ℕ
  ns = cited_by_key entries keys

  abbrev place : Text → Place
  place = place_after entries ks (length entries)

  abbrev entry_shown : Text → Option ℕ
  entry_shown = shown entries keys ord last plain least

  abbrev added_texts : List Text
  added_texts = later entries keys ord last plain

  abbrev added : List ℕ
  added = added_numbers entries keys ord last plain least

  abbrev others : List ℕ
  others = dialects_parents entries keys ord last plain least

  -- ---- the texts whose places are listed

  shown_from : (y : Text) (m : ℕ) → entry_shown y ≡ Some m → ((place y).entry ≡ Some m) × (is_enough false least (place y) ≡ true)
  shown_from y m is = split (is_enough false least (place y)) refl is
    where
      split : (b : Bool) → is_enough false least (place y) ≡ b → cond b (place y).entry None ≡ Some m → ((place y).entry ≡ Some m) × (is_enough false least (place y) ≡ true)
      split true enough is = (is, enough)
      split false enough is = absurd (none-some m is)

  shown_entry : (y : Text) (m : ℕ) → entry_shown y ≡ Some m → (entry : EntryTexts) × (slice_get entries m ≡ Some entry) × (same entry.key y ≡ true)
  shown_entry y m is = found_entry entries keys ord last plain y m (shown_from y m is).0

  -- a text with the number, of which the fact holds
  shown_text : (P : Text → Type 0) (m : ℕ) (ys : List Text) → AllByRecursion P ys → is_in m (filter_map entry_shown ys) ≡ true → (y : Text) × P y × (entry_shown y ≡ Some m)
  shown_text P m [] all is = absurd (true≢false (sym is))
  shown_text P m (y ∷ ys) all is =
      split (entry_shown y) refl (sym (is_in_cons m (entry_shown y) (filter_map entry_shown ys)) ∙ is) (shown_text P m ys all.1)
    where
      by_number : (k : ℕ) → entry_shown y ≡ Some k → (b : Bool) → (k == m) ≡ b → (b || is_in m (filter_map entry_shown ys)) ≡ true
          → (is_in m (filter_map entry_shown ys) ≡ true → (z : Text) × P z × (entry_shown z ≡ Some m)) → (z : Text) × P z × (entry_shown z ≡ Some m)
      by_number k held true here is rest = (y, all.0, held ∙ ap (λ (j : ℕ). Some j) (eqb-true k m here))
      by_number k held false other is rest = rest is

      split : (o : Option ℕ) → entry_shown y ≡ o → (option_map_or (λ k. k == m) o false || is_in m (filter_map entry_shown ys)) ≡ true
          → (is_in m (filter_map entry_shown ys) ≡ true → (z : Text) × P z × (entry_shown z ≡ Some m)) → (z : Text) × P z × (entry_shown z ≡ Some m)
      split None held is rest = rest is
      split (Some k) held is rest = by_number k held (k == m) refl is rest

  shown_once : (ys : List Text) → Differ ys → NoneTwice (filter_map entry_shown ys)
  shown_once [] differ = tt
  shown_once (y ∷ ys) differ = split (entry_shown y) refl (shown_once ys differ.1)
    where
      split : (o : Option ℕ) → entry_shown y ≡ o → NoneTwice (filter_map entry_shown ys) → NoneTwice (cons_option o (filter_map entry_shown ys))
      split None held rest = rest
      split (Some m) held rest = (
        false_from_ne_true (is_in m (filter_map entry_shown ys)) (λ is.
            let one = shown_text (λ z. list_any (same z) ys ≡ true) m ys (all_itself ys) is in
            let e = shown_entry y m held in
            let g = shown_entry one.0 m one.2 in
            let alike : same y one.0 ≡ true =
            true-same y one.0 (sym (same-true e.0.key y e.2) ∙ ap (λ (c : EntryTexts). folded c.key) (same_Some e.0 g.0 (sym e.1 ∙ g.1)) ∙ same-true g.0.key one.0 g.2) in
            true≢false (sym (any_alike y one.0 ys alike ∙ one.1) ∙ differ.0)),
        rest,
      )

  -- ---- the same parents

  listed_or : (m : ℕ) → is_in m (listed entries keys least) ≡ (is_in m ns || is_in m others)
  listed_or m = ap (is_in m) (listed_are entries keys ord last plain least) ∙ list_any-append (λ k. k == m) ns others

  added_in : (m : ℕ) → is_in m added ≡ true → is_in m others ≡ true
  added_in m is =
      let one = shown_text (λ y. list_any (same y) ks ≡ false) m added_texts (later_other entries keys ord last plain).0 is in
      let held = shown_from one.0 m one.2 in
      let e = shown_entry one.0 m one.2 in
      let not_cited : is_in m ns ≡ false = cited_member entries keys ord last plain m e.0 e.1 ∙ any_alike e.0.key one.0 ks e.2 ∙ one.1 in
      ap (λ (b : Bool). b || is_in m others) (sym not_cited)
      ∙ sym (listed_or m)
      ∙ sym (enough_is entries keys ord last plain least one.0 m held.0)
      ∙ held.1

  module _ (some : 1 ≤ least) (m : ℕ) (entry : EntryTexts) (at : slice_get entries m ≡ Some entry) where
    -- an added parent has a place
    key_there : nat_le least (count_by (is_parent_of entries m) ns) ≡ true → list_any (same entry.key) (texts_after entries ks (length entries)) ≡ true
    key_there enough = ⊎_elim (λ is. is) (λ none_. absurd (too_few none_)) (cases_Bool (list_any (same entry.key) (texts_after entries ks (length entries))))
      where
        unnamed : list_any (same entry.key) (texts_after entries ks (length entries)) ≡ false → (i : ℕ) → i < length entries → is_text (cited_text entries ks i) entry.key ≡ false
        unnamed none_ i less = false_from_ne_true (is_text (cited_text entries ks i) entry.key) (λ says.
            let one = text_of (cited_text entries ks i) entry.key says in
            true≢false (sym (sym (any_alike one.0 entry.key (texts_after entries ks (length entries)) one.2) ∙ named_there entries ks (length entries) i one.0 less one.1) ∙ none_))

        too_few : list_any (same entry.key) (texts_after entries ks (length entries)) ≡ false → ⊥
        too_few none_ =
            let zero_ : count_by (is_parent_of entries m) ns ≡ 0 =
            sym (count_member entries keys ord last plain entry.key m entry at (true-same entry.key entry.key refl))
            ∙ count_none (length entries) (λ i. is_text (cited_text entries ks i) entry.key) (unnamed none_) in
            let less : least ≤ 0 = leb-true least 0 (sym (ap (nat_le least) zero_) ∙ enough) in
            omega (arith, less, some)

    shown_there : is_in m others ≡ true → (ys : List Text) → list_any (same entry.key) ys ≡ true → is_in m (filter_map entry_shown ys) ≡ true
    shown_there is [] has = absurd (true≢false (sym has))
    shown_there is (y ∷ ys) has = is_in_cons m (entry_shown y) (filter_map entry_shown ys) ∙ split (same entry.key y) refl has (shown_there is ys)
      where
        split : (b : Bool) → same entry.key y ≡ b → (b || list_any (same entry.key) ys) ≡ true → (list_any (same entry.key) ys ≡ true → is_in m (filter_map entry_shown ys) ≡ true)
            → (option_map_or (λ k. k == m) (entry_shown y) false || is_in m (filter_map entry_shown ys)) ≡ true
        split true here has rest =
            let held = held_by_key entries keys ord last plain y m entry at here in
            let enough : is_enough false least (place y) ≡ true =
            enough_is entries keys ord last plain least y m held ∙ listed_or m ∙ or_right (is_in m ns) (is_in m others) is in
            ap (λ (o : Option ℕ). option_map_or (λ k. k == m) o false || is_in m (filter_map entry_shown ys)) (cond-true (is_enough false least (place y)) (place y).entry None enough ∙ held)
            ∙ or_left (m == m) (is_in m (filter_map entry_shown ys)) (is_itself m)
        split false other has rest = or_right (option_map_or (λ k. k == m) (entry_shown y) false) (is_in m (filter_map entry_shown ys)) (rest has)

  in_added : 1 ≤ least → (m : ℕ) → is_in m others ≡ true → is_in m added ≡ true
  in_added some m is = ⊎_elim
      (λ low. inside (ltb-true m (length entries) low))
      (λ far. let past : length entries ≤ m = ltb-false m (length entries) far in
      absurd (true≢false (sym is ∙ filtered_far (is_added entries keys ord last plain least) m 0 (length entries) (omega (arith, past)))))
      (cases_Bool (nat_lt m (length entries)))
    where
      inside : m < length entries → is_in m added ≡ true
      inside less =
          let one = in_range entries m less in
          let passes : (not (is_in m ns) && nat_le least (count_by (is_parent_of entries m) ns)) ≡ true =
          sym (filtered_is (is_added entries keys ord last plain least) m 0 (length entries) (omega arith) (omega (arith, less))) ∙ is in
          let both = and_parts (not (is_in m ns)) (nat_le least (count_by (is_parent_of entries m) ns)) passes in
          let not_cited : list_any (same one.0.key) ks ≡ false = sym (cited_member entries keys ord last plain m one.0 one.1) ∙ not_in (is_in m ns) both.0 in
          let there : (list_any (same one.0.key) ks || list_any (same one.0.key) added_texts) ≡ true =
          sym (list_any-append (same one.0.key) ks added_texts) ∙ ap (list_any (same one.0.key)) (sym (texts_are entries ks (length entries))) ∙ key_there some m one.0 one.1 both.1 in
          shown_there some m one.0 one.1 is added_texts (ap (λ (b : Bool). b || list_any (same one.0.key) added_texts) (sym not_cited) ∙ there)
        where
          not_in : (b : Bool) → not b ≡ true → b ≡ false
          not_in true is = sym is
          not_in false is = refl

  same_parents : 1 ≤ least → SameMembers added others
  same_parents some m = both_true (is_in m added) (is_in m others) (added_in m) (in_added some m)

  others_rise : Rises others
  others_rise = filtered_rises (is_added entries keys ord last plain least) 0 (length entries)

  entries_are : 1 ≤ least → IsPermutation (ns ++ added) (listed entries keys least)
  entries_are some = subst (IsPermutation (ns ++ added)) (sym (listed_are entries keys ord last plain least))
      (IsPermutation-append ns ns added others (IsPermutation-refl ns)
      (same_members_permute added others (shown_once added_texts (later_other entries keys ord last plain).1) (rises_once others others_rise) (same_parents some)))

  -- ---- the order

  module _ (order : ParentsInOrder entries keys) where
    -- a text that is named first by entry n, after the others
    module _ (n : ℕ) (low : n < length entries) (t : Text) (says : cited_text entries ks n ≡ Some t) (new : list_any (same t) (texts_after entries ks n) ≡ false)
        (q : ℕ) (child : (entry : EntryTexts) × (slice_get entries n ≡ Some entry) × (crossref_text entry ≡ Some t) × (list_any (same entry.key) ks ≡ true))
        (named : (entry : EntryTexts) × (slice_get entries q ≡ Some entry) × (same entry.key t ≡ true)) where
      parent_q : parent entries n ≡ Some q
      parent_q = names_parent entries ks ord last n q child.0 named.0 t child.1 child.2 named.1 (same_comm t named.0.key ∙ named.2)

      -- no entry before names it
      no_earlier : (k : ℕ) → k < n → Contains ns k → parent entries k ≡ Some q → ⊥
      no_earlier k less has is =
          let e = in_range entries k (omega (arith, less, low)) in
          let cited_ : list_any (same e.0.key) ks ≡ true = sym (cited_member entries keys ord last plain k e.0 e.1) ∙ contained_member k ns has in
          let one = parent_text entries keys ord last plain k q e.0 named.0 e.1 named.1 is in
          let counted : cited_text entries ks k ≡ Some one.0 =
          ap (option_and_then (counted_text ks)) e.1 ∙ cond-true (list_any (same e.0.key) ks) (crossref_text e.0) None cited_ ∙ one.1 in
          let alike : same t one.0 ≡ true = true-same t one.0 (sym (same-true named.0.key t named.2) ∙ same-true named.0.key one.0 one.2) in
          true≢false (sym (any_alike t one.0 (texts_after entries ks n) alike ∙ named_there entries ks n k one.0 less counted) ∙ new)

      before : (p : ℕ) (y : Text) → list_any (same y) ks ≡ false → list_any (same y) (texts_after entries ks n) ≡ true → entry_shown y ≡ Some p → p < q
      before p y other there is = ⊎_elim (λ cited_. absurd (true≢false (sym cited_ ∙ other))) earlier (there_from entries ks n y there)
        where
          own : (entry : EntryTexts) × (slice_get entries p ≡ Some entry) × (same entry.key y ≡ true)
          own = shown_entry y p is

          differ : p ≡ q → ⊥
          differ same_ =
              let alike : same t y ≡ true =
              true-same t y (sym (same-true named.0.key t named.2) ∙ ap (λ (e : EntryTexts). folded e.key) (same_Some named.0 own.0 (sym named.1 ∙ ap (slice_get entries) (sym same_) ∙ own.1)) ∙ same-true own.0.key y own.2) in
              true≢false (sym (any_alike t y (texts_after entries ks n) alike ∙ there) ∙ new)

          earlier : (i : ℕ) × (s : Text) × (i < n) × (cited_text entries ks i ≡ Some s) × (same y s ≡ true) → p < q
          earlier one =
              let i : ℕ = one.0 in
              let less : i < n = one.2 in
              let e = counted_from entries ks i one.1 one.3 in
              let parent_p : parent entries i ≡ Some p =
              names_parent entries ks ord last i p e.0 own.0 one.1 e.1 e.2 own.1 (true-same one.1 own.0.key (sym (same-true y one.1 one.4) ∙ sym (same-true own.0.key y own.2))) in
              let has_i : Contains ns i = member_contained i ns (cited_member entries keys ord last plain i e.0 e.1 ∙ e.3) in
              let has_n : Contains ns n = member_contained n ns (cited_member entries keys ord last plain n child.0 child.1 ∙ child.3) in
              ⊎_elim
              (λ is_less. ltb-true p q is_less)
              (λ not_less. ⊎_elim
              (λ same_. absurd (differ (sym same_)))
              (λ falls.
              let first = order i n p q has_i has_n parent_p parent_q less falls in
              let sooner : first.0 < i = first.3 in
              absurd (no_earlier first.0 (omega (arith, sooner, less)) first.1 first.2))
              (eq-or-lt_of_le (ltb-false p q not_less)))
              (cases_Bool (nat_lt p q))

    later_known : (n : ℕ) → AllByRecursion (λ y. (list_any (same y) ks ≡ false) × (list_any (same y) (texts_after entries ks n) ≡ true)) (later_texts entries ks n)
    later_known n = all_both (λ y. list_any (same y) ks ≡ false) (λ y. list_any (same y) (later_texts entries ks n) ≡ true)
        (λ y. (list_any (same y) ks ≡ false) × (list_any (same y) (texts_after entries ks n) ≡ true))
        (λ y other there. (other, ap (list_any (same y)) (texts_are entries ks n) ∙ list_any-append (same y) ks (later_texts entries ks n) ∙ or_right (list_any (same y) ks) (list_any (same y) (later_texts entries ks n)) there))
        (later_texts entries ks n)
        (differ_parts ks (later_texts entries ks n) (subst Differ (texts_are entries ks n) (texts_differ entries ks (cited_differ entries keys ord last plain) n))).0
        (all_itself (later_texts entries ks n))

    added_rise : (n : ℕ) → n ≤ length entries → Rises (filter_map entry_shown (later_texts entries ks n))
    added_rise zero low = tt
    added_rise (suc n) low = by_text (cited_text entries ks n) refl (added_rise n (omega (arith, low)))
      where
        less : n < length entries
        less = omega (arith, low)

        l : List Text
        l = later_texts entries ks n

        by_number : (t : Text) → cited_text entries ks n ≡ Some t → list_any (same t) (texts_after entries ks n) ≡ false → (o : Option ℕ) → entry_shown t ≡ o → Rises (filter_map entry_shown l)
            → Rises (filter_map entry_shown l ++ cons_option o [])
        by_number t says new None held rest = subst Rises (sym (append-nil (filter_map entry_shown l))) rest
        by_number t says new (Some q) held rest = rises_and (filter_map entry_shown l) q rest (λ p is.
            let one = shown_text (λ y. (list_any (same y) ks ≡ false) × (list_any (same y) (texts_after entries ks n) ≡ true)) p l (later_known n) is in
            before n less t says new q (counted_from entries ks n t says) (shown_entry t q held) p one.0 one.1.0 one.1.1 one.2)

        by_new : (t : Text) → cited_text entries ks n ≡ Some t → (b : Bool) → list_any (same t) (ks ++ l) ≡ b → Rises (filter_map entry_shown l) → Rises (filter_map entry_shown (cond b l (l ++ t ∷ [])))
        by_new t says true known_ rest = rest
        by_new t says false new rest =
            subst Rises (sym (filter_map-append entry_shown l (t ∷ [])))
            (by_number t says (ap (list_any (same t)) (texts_are entries ks n) ∙ new) (entry_shown t) refl rest)

        by_text : (o : Option Text) → cited_text entries ks n ≡ o → Rises (filter_map entry_shown l) → Rises (filter_map entry_shown (later_read ks o l))
        by_text None says rest = rest
        by_text (Some t) says rest = by_new t says (list_any (same t) (ks ++ l)) refl rest

    in_order : 1 ≤ least → ns ++ added ≡ listed entries keys least
    in_order some =
        ap (λ (l : List ℕ). ns ++ l) (rising_alike added others (added_rise (length entries) (le_refl (length entries))) others_rise (same_parents some))
        ∙ sym (listed_are entries keys ord last plain least)

pub keys-list-the-dialects : keys_list_the_dialects
keys-list-the-dialects entries keys least some ord last plain = record {
  added = added_numbers entries keys ord last plain least;
  records = records_are entries keys ord last plain least;
  entries_are = entries_are entries keys ord last plain least some;
  in_order = λ order. in_order entries keys ord last plain least order some;
}
