-- Records do not change when entries, and with them places, get other numbers in the same order, if each crossref names the
-- place that has it as its key.
use Rattle.std.proofs.Common.{◌≡◌, ◌∙◌, ℕ, zero, suc, ◌+◌, ◌<◌, ◌≤◌, nat_lt, Bool, true, false, cond, ◌&&◌, List, [], ◌∷◌, ◌++◌, Option, Some, None, is_some, option_map, option_and_then, slice_get, length, map, filter_map, ⊎_elim, refl, sym, ap, ap₂, arith, ltb-true, not-suc-le-zero}
use Rattle.std.specs.List.{enumerate_from, cons_option}
use Rattle.std.specs.Option.{option_map_or}
use Rattle.std.proofs.lemmas.Bool.{cases_Bool, cond-true, cond-false}
use Rattle.bib_spec.specs.Text.{Text, folded}
use Rattle.bib_spec.specs.Records.{EntryTexts, RecordField, crossref_text, own_fields, missing, fields_at, with_inherited}
use Rattle.bibtex_spec.specs.Places.{cited_keys, are_all_cited, Place}
use Rattle.bibtex_spec.specs.Listed.{place_with, holder, crossref_at, place_named, parent_place, up_from, up, is_enough, ListedRecord, is_shown, crossref_spelling, shown_place, shown_crossref, givers, listed_record, record_at}
use Rattle.bibtex_laws.proofs.StarPlaces.{renumbered}

-- more steps than the number of the place make no difference
pub up_enough : (parents : ℕ → Option ℕ) (most more i : ℕ) → i < most → i < more → up_from parents most i ≡ up_from parents more i
up_enough parents zero more i one other = absurd (not-suc-le-zero one)
up_enough parents (suc most) zero i one other = absurd (not-suc-le-zero other)
up_enough parents (suc most) (suc more) i one other = at (λ j. up_enough parents most more j) (parents i)
  where
    at : ((j : ℕ) → j < most → j < more → up_from parents most j ≡ up_from parents more j)
        → (o : Option ℕ) → option_map_or (λ j. j ∷ cond (nat_lt j i) (up_from parents most j) []) o [] ≡ option_map_or (λ j. j ∷ cond (nat_lt j i) (up_from parents more j) []) o []
    at rest None = refl
    at rest (Some j) = ap (λ (l : List ℕ). j ∷ l) (⊎_elim
        (λ t.
        let less : j < i = ltb-true j i t in
        cond-true (nat_lt j i) (up_from parents most j) [] t
        ∙ rest j (let is : j < most = omega (arith, less, one) in is) (let is : j < more = omega (arith, less, other) in is)
        ∙ sym (cond-true (nat_lt j i) (up_from parents more j) [] t))
        (λ f. cond-false (nat_lt j i) (up_from parents most j) [] f ∙ sym (cond-false (nat_lt j i) (up_from parents more j) [] f))
        (cases_Bool (nat_lt j i)))

-- the places and the entries by their new numbers: a place keeps its entry, and each crossref names the place that it named
pub record AreRenumbered (entries more : List EntryTexts) (ps qs : List Place) (number spot : ℕ → ℕ) : Type 0 where
  pub entry_at : (n : ℕ) → slice_get more (number n) ≡ slice_get entries n
  pub place_at : (k : ℕ) → slice_get qs (spot k) ≡ option_map (renumbered number) (slice_get ps k)
  pub named_at : (n : ℕ) (entry : EntryTexts) (text : Text) → slice_get entries n ≡ Some entry → crossref_text entry ≡ Some text → place_with text qs ≡ option_map spot (place_with text ps)
  pub in_order : (j k : ℕ) → nat_lt (spot j) (spot k) ≡ nat_lt j k
  pub grows : (k : ℕ) → k ≤ spot k

-- a crossref names the place that has it as its key
abbrev pub NamesItsPlace : List Text → Type 0
NamesItsPlace keys = (entries : List EntryTexts) (places : List Place) (text : Text) → place_named entries keys places text ≡ place_with text places

module _ (keys : List Text) (names : NamesItsPlace keys) (entries more : List EntryTexts) (ps qs : List Place) (number spot : ℕ → ℕ) (are : AreRenumbered entries more ps qs number spot) where
  holder_is : (k : ℕ) → holder qs (spot k) ≡ option_map number (holder ps k)
  holder_is k = ap (option_and_then (λ (place : Place). place.entry)) (are.place_at k) ∙ at (slice_get ps k)
    where
      at : (o : Option Place) → option_and_then (λ (place : Place). place.entry) (option_map (renumbered number) o) ≡ option_map number (option_and_then (λ (place : Place). place.entry) o)
      at None = refl
      at (Some p) = refl

  entry_still : (o : Option ℕ) → option_and_then (slice_get more) (option_map number o) ≡ option_and_then (slice_get entries) o
  entry_still None = refl
  entry_still (Some n) = are.entry_at n

  crossref_is : (k : ℕ) → crossref_at more qs (spot k) ≡ crossref_at entries ps k
  crossref_is k = ap (option_and_then crossref_text) (ap (option_and_then (slice_get more)) (holder_is k) ∙ entry_still (holder ps k))

  parent_is : (k : ℕ) → parent_place more keys qs (spot k) ≡ option_map spot (parent_place entries keys ps k)
  parent_is k = ap (option_and_then (place_named more keys qs)) (crossref_is k) ∙ by_holder (holder ps k)
    where
      by_text : (n : ℕ) (entry : EntryTexts) → slice_get entries n ≡ Some entry → (o : Option Text) → crossref_text entry ≡ o
          → option_and_then (place_named more keys qs) o ≡ option_map spot (option_and_then (place_named entries keys ps) o)
      by_text n entry at None is = refl
      by_text n entry at (Some text) is = names more qs text ∙ are.named_at n entry text at is ∙ sym (ap (option_map spot) (names entries ps text))

      by_entry : (n : ℕ) (o : Option EntryTexts) → slice_get entries n ≡ o
          → option_and_then (place_named more keys qs) (option_and_then crossref_text o) ≡ option_map spot (option_and_then (place_named entries keys ps) (option_and_then crossref_text o))
      by_entry n None at = refl
      by_entry n (Some entry) at = by_text n entry at (crossref_text entry) refl

      by_holder : (o : Option ℕ) → option_and_then (place_named more keys qs) (option_and_then crossref_text (option_and_then (slice_get entries) o))
          ≡ option_map spot (option_and_then (place_named entries keys ps) (option_and_then crossref_text (option_and_then (slice_get entries) o)))
      by_holder None = refl
      by_holder (Some n) = by_entry n (slice_get entries n) refl

  up_still : (most k : ℕ) → up_from (parent_place more keys qs) most (spot k) ≡ map spot (up_from (parent_place entries keys ps) most k)
  up_still zero k = refl
  up_still (suc most) k =
      ap (λ (o : Option ℕ). option_map_or (λ j. j ∷ cond (nat_lt j (spot k)) (up_from (parent_place more keys qs) most j) []) o []) (parent_is k)
      ∙ at (parent_place entries keys ps k) (λ j. up_still most j)
    where
      at : (o : Option ℕ) → ((j : ℕ) → up_from (parent_place more keys qs) most (spot j) ≡ map spot (up_from (parent_place entries keys ps) most j))
          → option_map_or (λ j. j ∷ cond (nat_lt j (spot k)) (up_from (parent_place more keys qs) most j) []) (option_map spot o) []
          ≡ map spot (option_map_or (λ j. j ∷ cond (nat_lt j k) (up_from (parent_place entries keys ps) most j) []) o [])
      at None rest = refl
      at (Some j) rest =
          ap (λ (l : List ℕ). spot j ∷ l)
          (ap₂ (λ (b : Bool) (l : List ℕ). cond b l []) (are.in_order j k) (rest j) ∙ split (nat_lt j k) (up_from (parent_place entries keys ps) most j))
        where
          split : (b : Bool) (l : List ℕ) → cond b (map spot l) [] ≡ map spot (cond b l [])
          split true l = refl
          split false l = refl

  up_is : (k : ℕ) → up (parent_place more keys qs) (spot k) ≡ map spot (up (parent_place entries keys ps) k)
  up_is k =
      let grown : k ≤ spot k = are.grows k in
      up_still (suc (spot k)) k
      ∙ ap (map spot) (up_enough (parent_place entries keys ps) (suc (spot k)) (suc k) k (let is : k < suc (spot k) = omega (arith, grown) in is) (let is : k < suc k = omega arith in is))

  givers_are : (k : ℕ) → givers more keys qs (spot k) ≡ map number (givers entries keys ps k)
  givers_are k = ap (filter_map (holder qs)) (up_is k) ∙ all (up (parent_place entries keys ps) k)
    where
      one : (o : Option ℕ) (ns : List ℕ) → cons_option (option_map number o) (map number ns) ≡ map number (cons_option o ns)
      one None ns = refl
      one (Some n) ns = refl

      all : (js : List ℕ) → filter_map (holder qs) (map spot js) ≡ map number (filter_map (holder ps) js)
      all [] = refl
      all (j ∷ js) = ap₂ cons_option (holder_is j) (all js) ∙ one (holder ps j) (filter_map (holder ps) js)

  inherited_is : (own : List RecordField) (ns : List ℕ) → with_inherited more own (map number ns) ≡ with_inherited entries own ns
  inherited_is own [] = refl
  inherited_is own (n ∷ ns) =
      ap (λ (fields : List RecordField). with_inherited more (own ++ missing own fields) (map number ns)) (ap (λ (o : Option EntryTexts). option_map_or own_fields o []) (are.entry_at n))
      ∙ inherited_is (own ++ missing own (fields_at entries n)) ns

  module _ (least : ℕ) where
    spelled_alike : (text : Text) (o : Option Place)
        → option_map (crossref_spelling (cited_keys keys) text) (option_and_then (λ place. cond (is_shown (are_all_cited keys) least place) (Some place) None) (option_map (renumbered number) o))
        ≡ option_map (crossref_spelling (cited_keys keys) text) (option_and_then (λ place. cond (is_shown (are_all_cited keys) least place) (Some place) None) o)
    spelled_alike text None = refl
    spelled_alike text (Some p) = held p.entry
      where
        split : (b : Bool) → option_map (crossref_spelling (cited_keys keys) text) (cond b (Some (renumbered number p)) None) ≡ option_map (crossref_spelling (cited_keys keys) text) (cond b (Some p) None)
        split true = refl
        split false = refl

        held : (o : Option ℕ) → option_map (crossref_spelling (cited_keys keys) text) (cond (is_some (option_map number o) && is_enough (are_all_cited keys) least p) (Some (renumbered number p)) None)
            ≡ option_map (crossref_spelling (cited_keys keys) text) (cond (is_some o && is_enough (are_all_cited keys) least p) (Some p) None)
        held None = refl
        held (Some n) = split (is_enough (are_all_cited keys) least p)

    crossref_still : (k : ℕ) → shown_crossref more keys least qs (spot k) ≡ shown_crossref entries keys least ps k
    crossref_still k =
        ap₂ (λ (o : Option Text) (p : Option ℕ). option_and_then (λ text. option_map (crossref_spelling (cited_keys keys) text) (option_and_then (shown_place keys least qs) p)) o) (crossref_is k) (parent_is k)
        ∙ by_text (crossref_at entries ps k)
      where
        by_place : (text : Text) (o : Option ℕ) → option_map (crossref_spelling (cited_keys keys) text) (option_and_then (shown_place keys least qs) (option_map spot o)) ≡ option_map (crossref_spelling (cited_keys keys) text) (option_and_then (shown_place keys least ps) o)
        by_place text None = refl
        by_place text (Some j) =
            ap (λ (o : Option Place). option_map (crossref_spelling (cited_keys keys) text) (option_and_then (λ place. cond (is_shown (are_all_cited keys) least place) (Some place) None) o)) (are.place_at j)
            ∙ spelled_alike text (slice_get ps j)

        by_text : (o : Option Text) → option_and_then (λ text. option_map (crossref_spelling (cited_keys keys) text) (option_and_then (shown_place keys least qs) (option_map spot (parent_place entries keys ps k)))) o
            ≡ option_and_then (λ text. option_map (crossref_spelling (cited_keys keys) text) (option_and_then (shown_place keys least ps) (parent_place entries keys ps k))) o
        by_text None = refl
        by_text (Some text) = by_place text (parent_place entries keys ps k)

    pub record_still : (k : ℕ) (p : Place) → record_at more keys least qs (spot k, renumbered number p) ≡ record_at entries keys least ps (k, p)
    record_still k p =
        ap (λ (o : Option EntryTexts). cond (is_enough (are_all_cited keys) least p) (option_map (listed_record more keys least qs (spot k) (renumbered number p)) o) None) (entry_still p.entry)
        ∙ ap (λ (o : Option ListedRecord). cond (is_enough (are_all_cited keys) least p) o None) (at (option_and_then (slice_get entries) p.entry))
      where
        at : (o : Option EntryTexts) → option_map (listed_record more keys least qs (spot k) (renumbered number p)) o ≡ option_map (listed_record entries keys least ps k p) o
        at None = refl
        at (Some entry) = ap₂ (λ (fields : List RecordField) (key : Option Text). let one : ListedRecord = record { kind_name = folded entry.kind; key = p.spelled; fields = fields; crossref = key } in Some one)
            (ap (with_inherited more (own_fields entry)) (givers_are k) ∙ inherited_is (own_fields entry) (givers entries keys ps k)) (crossref_still k)

    -- the records of places in a row
    pub records_still : (n k : ℕ) (places : List Place) → ((j : ℕ) → j < length places → spot (n + j) ≡ k + j)
        → filter_map (record_at more keys least qs) (enumerate_from k (map (renumbered number) places)) ≡ filter_map (record_at entries keys least ps) (enumerate_from n places)
    records_still n k [] at = refl
    records_still n k (p ∷ places) at =
        let here : spot n ≡ k = (let is : n ≡ n + 0 = omega arith in ap spot is) ∙ at zero (let less : zero < suc (length places) = omega arith in less) ∙ (let is : k + 0 ≡ k = omega arith in is) in
        ap₂ cons_option
        (ap (λ (j : ℕ). record_at more keys least qs (j, renumbered number p)) (sym here) ∙ record_still n p)
        (records_still (n + 1) (k + 1) places (λ j less.
        (let is : n + 1 + j ≡ n + suc j = omega arith in ap spot is)
        ∙ at (suc j) (let is : suc j < suc (length places) = omega (arith, less) in is)
        ∙ (let is : k + suc j ≡ k + 1 + j = omega arith in is)))
