-- The entries that give fields to a place are a chain of targets, and give what the ancestors give.
use Rattle.std.proofs.Common.{◌≡◌, ◌≢◌, ◌∙◌, ℕ, zero, suc, ◌+◌, ◌==◌, nat_lt, Bool, true, false, cond, not, ◌&&◌, List, [], ◌∷◌, ◌++◌, Option, Some, None, option_map, option_and_then, slice_get, length, filter_map, ⊎_elim, refl, sym, ap, subst, arith, append-nil, zero-add, eqb-true}
use Rattle.std.specs.Bool.{⊤}
use Rattle.std.specs.List.{list_any, enumerate_from, cons_option}
use Rattle.std.specs.Option.{option_map_or}
use Rattle.std.proofs.lemmas.Bool.{cases_Bool, cond-true, cond-false, and_parts, false_from_ne_true, true≢false}
use Rattle.std.proofs.lemmas.Option.{none-some, same_Some, option_and_then_some}
use Rattle.bib_spec.specs.Text.{Text, same}
use Rattle.bib_spec.specs.Texts.{is_empty}
use Rattle.bib_spec.specs.Records.{EntryTexts, RecordField, crossref_text, keys_of, is_named, entry_named, target_of, target, other_than, parent, own_fields, missing, fields_at, with_inherited, record_of, ancestors}
use Rattle.bib_spec.specs.Lineages.{lineage}
use Rattle.bib_spec.proofs.Lineages.{lineage_none, rings-give-nothing-more}
use Rattle.bib_spec.proofs.Missing.{are_borne, bears, bears_with, missing_none, borne_by, or_later}
use Rattle.bib_spec.proofs.Names.{same-true, true-same}
use Rattle.bib_spec.proofs.Places.{first_from}
use Rattle.edit_spec.specs.Laws.{AllDiffer}
use Rattle.bibtex_spec.specs.Places.{cited_keys, are_all_cited, Place, places_of}
use Rattle.bibtex_spec.specs.Listed.{first_same, place_with, holder, crossref_at, is_missing, within, place_named, parent_place, up_from, givers, is_enough, ListedRecord, listed_record, record_at, listed_as_bibtex}
use Rattle.bibtex_laws.specs.RenamingLists.{NoneNamesNothing}
use Rattle.bibtex_laws.specs.DialectRecords.{NoneNamesAMissingKey, depth_of, IsDialectRecord, records_are_the_dialects}
use Rattle.bibtex_laws.proofs.NewKeys.{unnamed}
use Rattle.bibtex_laws.proofs.HeldPlaces.{fit_at, places_fit, place_found}

-- ---- chains of targets

module _ (entries : List EntryTexts) where
  -- each entry is the target of the one before it, the first that of n
  abbrev IsChain : ℕ → List ℕ → Type 0
  IsChain n [] = ⊤
  IsChain n (m ∷ ms) = (target entries n ≡ Some m) × IsChain m ms

  -- a chain gives what the lineage gives: an entry that is its own target gives nothing more
  chain_gives : (ms : List ℕ) (n : ℕ) (own : List RecordField) → IsChain n ms → are_borne own (fields_at entries n) ≡ true
      → with_inherited entries own ms ≡ with_inherited entries own (lineage (parent entries) (length ms) n)
  chain_gives [] n own chain borne = refl
  chain_gives (m ∷ ms) n own chain borne = ⊎_elim
      (λ is.
      let same_ : m ≡ n = eqb-true m n is in
      let none : parent entries n ≡ None = ap (option_and_then (other_than n)) chain.0 ∙ cond-true (m == n) None (Some m) is in
      ap (λ (fields : List RecordField). with_inherited entries (own ++ fields) ms) (missing_none own (fields_at entries m) (ap (λ (k : ℕ). are_borne own (fields_at entries k)) same_ ∙ borne))
      ∙ ap (λ (fields : List RecordField). with_inherited entries fields ms) (append-nil own)
      ∙ chain_gives ms n own (subst (λ (k : ℕ). IsChain k ms) same_ chain.1) borne
      ∙ ap (with_inherited entries own) (lineage_none (parent entries) (length ms) n none ∙ sym (lineage_none (parent entries) (suc (length ms)) n none)))
      (λ other.
      let some : parent entries n ≡ Some m = ap (option_and_then (other_than n)) chain.0 ∙ cond-false (m == n) None (Some m) other in
      let its : List RecordField = fields_at entries m in
      let wider : List RecordField = own ++ missing own its in
      chain_gives ms m wider chain.1 (borne_by its wider (λ name has. bears_with own its name ∙ or_later (bears own name) (bears its name) has))
      ∙ sym (ap (λ (o : Option ℕ). with_inherited entries own (option_map_or (λ k. k ∷ lineage (parent entries) (length ms) k) o [])) some))
      (cases_Bool (m == n))

pub key_get : (entries : List EntryTexts) (m : ℕ) (entry : EntryTexts) → slice_get entries m ≡ Some entry → slice_get (keys_of entries) m ≡ Some entry.key
key_get [] m entry at = absurd (none-some entry at)
key_get (first ∷ entries) zero entry at = ap (λ (o : Option EntryTexts). option_map (λ e. e.key) o) at
key_get (first ∷ entries) (suc m) entry at = key_get entries m entry at

-- the text names the only entry with the key
pub only_named : (entries : List EntryTexts) → AllDiffer (keys_of entries) → (text : Text) (m : ℕ) (entry : EntryTexts) → slice_get entries m ≡ Some entry → same text entry.key ≡ true → (text ≡ [] → entry.key ≢ []) → entry_named entries text ≡ Some m
only_named entries differ text m entry at is apart = first_from text (keys_of entries) m (record {
  key = entry.key;
  stands = key_get entries m entry at;
  named = ⊎_elim (λ yes_. yes_) (λ no_. absurd (true≢false (sym is ∙ unnamed text entry.key no_ apart))) (cases_Bool (is_named text entry.key));
  before = λ j other less there. false_from_ne_true (is_named text other) (λ named.
      let alike : same other entry.key ≡ true =
      true-same other entry.key (same-true other text (and_parts (not (is_empty other)) (same other text) named).1 ∙ same-true text entry.key is) in
      true≢false (sym alike ∙ differ j m other entry.key there (key_get entries m entry at) (λ e. omega (arith, less, e))));
})

-- a place without a parent place inherits nothing
pub up_none : (parents : ℕ → Option ℕ) (most j : ℕ) → parents j ≡ None → up_from parents most j ≡ []
up_none parents zero j none = refl
up_none parents (suc most) j none = ap (λ (o : Option ℕ). option_map_or (λ k. k ∷ cond (nat_lt k j) (up_from parents most k) []) o []) none

module _ (entries : List EntryTexts) (keys : List Text) (differ : AllDiffer (keys_of entries)) (none_empty : NoneNamesNothing entries) (none_missing : NoneNamesAMissingKey entries keys) where
  abbrev places : List Place
  places = places_of entries keys

  abbrev parents : ℕ → Option ℕ
  parents = parent_place entries keys places

  names_place : (n : ℕ) (entry : EntryTexts) (text : Text) → slice_get entries n ≡ Some entry → crossref_text entry ≡ Some text → place_named entries keys places text ≡ place_with text places
  names_place n entry text at says =
      cond-false (are_all_cited keys && is_missing entries text && list_any (same text) (cited_keys keys)) (option_and_then (within places) (first_same text (cited_keys keys))) (place_with text places)
      (split (are_all_cited keys) refl)
    where
      three : (a b : Bool) → (a && b) ≡ false → (true && a && b) ≡ false
      three a b no_ = no_

      split : (b : Bool) → are_all_cited keys ≡ b → (b && is_missing entries text && list_any (same text) (cited_keys keys)) ≡ false
      split true all = three (is_missing entries text) (list_any (same text) (cited_keys keys)) (none_missing n entry text all at says)
      split false all = refl

  -- the parent place of a held place, if it is held, is held by the target
  step : (i j n m : ℕ) → holder places i ≡ Some n → parents i ≡ Some j → holder places j ≡ Some m → target entries n ≡ Some m
  step i j n m holds names held =
      option_and_then_some (place_named entries keys places) (crossref_at entries places i) j names (λ text says is.
      option_and_then_some crossref_text (slice_get entries n) text (sym (ap (λ (o : Option ℕ). option_and_then crossref_text (option_and_then (slice_get entries) o)) holds) ∙ says) (λ entry at said.
      let found = place_found text places j (sym (names_place n entry text at said) ∙ is) in
      let holds_it : found.0.entry ≡ Some m = sym (ap (option_and_then (λ (place : Place). place.entry)) found.1) ∙ held in
      let other = fit_at entries places j found.0 (places_fit entries keys) found.1 m holds_it in
      let alike : same text other.0.key ≡ true = true-same text other.0.key (same-true text found.0.spelled found.2 ∙ sym (same-true other.0.key found.0.spelled other.2)) in
      ap (option_and_then (target_of entries)) at
      ∙ ap (option_and_then (entry_named entries)) said
      ∙ only_named entries differ text m other.0 other.1 alike (λ nothing. none_empty n m entry other.0 at other.1 (said ∙ ap (λ (t : Text). Some t) nothing))))

  -- a place that is not held has no parent place
  no_parent : (j : ℕ) → holder places j ≡ None → parents j ≡ None
  no_parent j none = ap (λ (o : Option ℕ). option_and_then (place_named entries keys places) (option_and_then crossref_text (option_and_then (slice_get entries) o))) none

  up_chain : (most i n : ℕ) → holder places i ≡ Some n → IsChain entries n (filter_map (holder places) (up_from parents most i))
  up_chain zero i n holds = tt
  up_chain (suc most) i n holds = by_parent (parents i) refl (λ j m. up_chain most j m)
    where
      later : (j m : ℕ) (b : Bool) → IsChain entries m (filter_map (holder places) (up_from parents most j)) → IsChain entries m (filter_map (holder places) (cond b (up_from parents most j) []))
      later j m true chain = chain
      later j m false chain = tt

      nothing : (j : ℕ) (b : Bool) → holder places j ≡ None → IsChain entries n (filter_map (holder places) (cond b (up_from parents most j) []))
      nothing j true none = subst (λ (l : List ℕ). IsChain entries n (filter_map (holder places) l)) (sym (up_none parents most j (no_parent j none))) tt
      nothing j false none = tt

      by_holder : (j : ℕ) (o : Option ℕ) → holder places j ≡ o → parents i ≡ Some j → ((m : ℕ) → holder places j ≡ Some m → IsChain entries m (filter_map (holder places) (up_from parents most j)))
          → IsChain entries n (cons_option o (filter_map (holder places) (cond (nat_lt j i) (up_from parents most j) [])))
      by_holder j None none names rest = nothing j (nat_lt j i) none
      by_holder j (Some m) held names rest = (step i j n m holds names held, later j m (nat_lt j i) (rest m held))

      by_parent : (o : Option ℕ) → parents i ≡ o → ((j m : ℕ) → holder places j ≡ Some m → IsChain entries m (filter_map (holder places) (up_from parents most j)))
          → IsChain entries n (filter_map (holder places) (option_map_or (λ j. j ∷ cond (nat_lt j i) (up_from parents most j) []) o []))
      by_parent None is rest = tt
      by_parent (Some j) is rest = by_holder j (holder places j) refl is (rest j)

  fields_are : (i n : ℕ) (entry : EntryTexts) → holder places i ≡ Some n → slice_get entries n ≡ Some entry
      → with_inherited entries (own_fields entry) (givers entries keys places i) ≡ with_inherited entries (own_fields entry) (ancestors entries (depth_of entries keys i) n)
  fields_are i n entry holds at =
      let own : fields_at entries n ≡ own_fields entry = ap (λ (o : Option EntryTexts). option_map_or own_fields o []) at in
      ap (λ (fields : List RecordField). with_inherited entries fields (givers entries keys places i)) (sym own)
      ∙ chain_gives entries (givers entries keys places i) n (fields_at entries n) (up_chain (suc i) i n holds) (borne_by (fields_at entries n) (fields_at entries n) (λ name has. has))
      ∙ rings-give-nothing-more entries (depth_of entries keys i) n
      ∙ ap (λ (fields : List RecordField). with_inherited entries fields (ancestors entries (depth_of entries keys i) n)) own

  -- ---- the list

  listed_at : (least : ℕ) (from : ℕ) (ps : List Place) (k : ℕ) (r : ListedRecord) → slice_get (filter_map (record_at entries keys least places) (enumerate_from from ps)) k ≡ Some r
      → (j : ℕ) × (p : Place) × (slice_get ps j ≡ Some p) × (record_at entries keys least places (from + j, p) ≡ Some r)
  listed_at least from [] k r at = absurd (none-some r at)
  listed_at least from (p ∷ ps) k r at = split (record_at entries keys least places (from, p)) refl k at (λ l there. listed_at least (from + 1) ps l r there)
    where
      next : (j : ℕ) × (q : Place) × (slice_get ps j ≡ Some q) × (record_at entries keys least places (from + 1 + j, q) ≡ Some r)
          → (j : ℕ) × (q : Place) × (slice_get (p ∷ ps) j ≡ Some q) × (record_at entries keys least places (from + j, q) ≡ Some r)
      next one = (
        suc one.0,
        one.1,
        one.2,
        (let is : from + suc one.0 ≡ from + 1 + one.0 = omega arith in ap (λ (i : ℕ). record_at entries keys least places (i, one.1)) is) ∙ one.3,
      )

      split : (o : Option ListedRecord) → record_at entries keys least places (from, p) ≡ o
          → (k : ℕ) → slice_get (cons_option o (filter_map (record_at entries keys least places) (enumerate_from (from + 1) ps))) k ≡ Some r
          → ((l : ℕ) → slice_get (filter_map (record_at entries keys least places) (enumerate_from (from + 1) ps)) l ≡ Some r
          → (j : ℕ) × (q : Place) × (slice_get ps j ≡ Some q) × (record_at entries keys least places (from + 1 + j, q) ≡ Some r))
          → (j : ℕ) × (q : Place) × (slice_get (p ∷ ps) j ≡ Some q) × (record_at entries keys least places (from + j, q) ≡ Some r)
      split None is k there rest = next (rest k there)
      split (Some x) is zero there rest = (zero, p, refl, (let same_ : from + 0 ≡ from = omega arith in ap (λ (i : ℕ). record_at entries keys least places (i, p)) same_) ∙ is ∙ there)
      split (Some x) is (suc k) there rest = next (rest k there)

  is_shown_at : (least i : ℕ) (p : Place) (r : ListedRecord) → record_at entries keys least places (i, p) ≡ Some r
      → option_map (listed_record entries keys least places i p) (option_and_then (slice_get entries) p.entry) ≡ Some r
  is_shown_at least i p r is = split (is_enough (are_all_cited keys) least p) is
    where
      split : (b : Bool) → cond b (option_map (listed_record entries keys least places i p) (option_and_then (slice_get entries) p.entry)) None ≡ Some r
          → option_map (listed_record entries keys least places i p) (option_and_then (slice_get entries) p.entry) ≡ Some r
      split true is = is
      split false is = absurd (none-some r is)

  -- the record of a place that an entry holds
  dialects : (least i n : ℕ) (p : Place) (entry : EntryTexts) (r : ListedRecord) → slice_get places i ≡ Some p → p.entry ≡ Some n → slice_get entries n ≡ Some entry
      → listed_record entries keys least places i p entry ≡ r → IsDialectRecord entries keys r
  dialects least i n p entry r at holds there is =
      let held : holder places i ≡ Some n = ap (option_and_then (λ (place : Place). place.entry)) at ∙ holds in
      let fit = fit_at entries places i p (places_fit entries keys) at n holds in
      let key_is : same entry.key p.spelled ≡ true = ap (λ (e : EntryTexts). same e.key p.spelled) (same_Some entry fit.0 (sym there ∙ fit.1)) ∙ fit.2 in
      record {
        place = i;
        entry = n;
        held = held;
        full = record_of (depth_of entries keys i) entries n entry;
        is = ap (option_map (record_of (depth_of entries keys i) entries n)) there;
        kind_name = sym (ap (λ (s : ListedRecord). s.kind_name) is);
        key = sym (ap (λ (s : ListedRecord). same entry.key s.key) is) ∙ key_is;
        fields = sym (ap (λ (s : ListedRecord). s.fields) is) ∙ fields_are i n entry held there;
      }

  pub dialect_record_at : (least k : ℕ) (r : ListedRecord) → slice_get (listed_as_bibtex entries keys least) k ≡ Some r → IsDialectRecord entries keys r
  dialect_record_at least k r at =
      let one = listed_at least 0 places k r at in
      let i : ℕ = one.0 in
      let p : Place = one.1 in
      let shown : record_at entries keys least places (i, p) ≡ Some r = sym (ap (λ (j : ℕ). record_at entries keys least places (j, p)) (zero-add i)) ∙ one.3 in
      by_entry i p one.2 p.entry refl (is_shown_at least i p r shown)
    where
      by_text : (i n : ℕ) (p : Place) → slice_get places i ≡ Some p → p.entry ≡ Some n → (o : Option EntryTexts) → slice_get entries n ≡ o
          → option_map (listed_record entries keys least places i p) o ≡ Some r → IsDialectRecord entries keys r
      by_text i n p there holds None gone is = absurd (none-some r is)
      by_text i n p there holds (Some entry) stands is = dialects least i n p entry r there holds stands (same_Some (listed_record entries keys least places i p entry) r is)

      by_entry : (i : ℕ) (p : Place) → slice_get places i ≡ Some p → (o : Option ℕ) → p.entry ≡ o
          → option_map (listed_record entries keys least places i p) (option_and_then (slice_get entries) o) ≡ Some r → IsDialectRecord entries keys r
      by_entry i p there None holds is = absurd (none-some r is)
      by_entry i p there (Some n) holds is = by_text i n p there holds (slice_get entries n) refl is

pub records-are-the-dialects : records_are_the_dialects
records-are-the-dialects entries keys least differ none_empty none_missing k r at = dialect_record_at entries keys differ none_empty none_missing least k r at
