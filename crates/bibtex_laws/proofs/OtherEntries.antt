-- Entries that no crossref of the others and no key names are never taken: the places are the same, except for the numbers of entries.
use Rattle.std.proofs.Common.{◌≡◌, ◌∙◌, ℕ, zero, suc, ◌+◌, ◌<◌, ◌≤◌, Bool, true, false, cond, not, ◌&&◌, ◌||◌, List, [], ◌∷◌, ◌++◌, Option, Some, None, is_none, option_map, option_and_then, slice_get, length, drop, map, filter, filter_map, find, ⊎_elim, refl, sym, ap, ap₂, arith, le_refl}
use Rattle.std.specs.List.{list_any, enumerate_from, AllByRecursion}
use Rattle.std.specs.Option.{option_map_or}
use Rattle.std.proofs.lemmas.Bool.{cases_Bool, cond-true, cond-false, or_parts, true≢false}
use Rattle.std.proofs.lemmas.Option.{slice_get-map}
use Rattle.bib_spec.specs.Text.{Text, same}
use Rattle.bib_spec.specs.Records.{EntryTexts, keys_of, crossref_text}
use Rattle.bib_spec.proofs.Names.{same-true, same_of, same_comm}
use Rattle.bibtex_spec.specs.Places.{is_star, each_once, cited_keys, are_all_cited, keys_before_star, Place, has_key, cited_place, is_awaited, held_by, taken, named_again, named, named_in, read_entry, read_entries, read_all, places_of}
use Rattle.bibtex_spec.specs.Listed.{first_same, place_with, is_missing, within, record_at, empty_keys, missing_after_star}
use Rattle.bibtex_laws.specs.OtherEntries.{NoneNamesAny, ListTheSame, other_entries_keep_lists}
use Rattle.bibtex_laws.proofs.StarPlaces.{renumbered, past, past_before, past_after, get_past}
use Rattle.bibtex_laws.proofs.RenumberedRecords.{NamesItsPlace, AreRenumbered, records_still}
use Rattle.bibtex_laws.proofs.StarLists.{spelled_still, get_first}

-- a conditional of equal tests and equal results
both_ways_same : {X : Type 0} (b c : Bool) (x u y v : X) → b ≡ c → x ≡ y → u ≡ v → cond b x u ≡ cond c y v
both_ways_same true true x u y v b one other = one
both_ways_same true false x u y v b one other = absurd (true≢false b)
both_ways_same false true x u y v b one other = absurd (true≢false (sym b))
both_ways_same false false x u y v b one other = other

-- two conditionals with one test, mapped
cond_map : {X Y : Type 0} (f : X → Y) (b : Bool) (x u : X) → cond b (f x) (f u) ≡ f (cond b x u)
cond_map f true x u = refl
cond_map f false x u = refl

module _ (number : ℕ → ℕ) where
  abbrev moved : Place → Place
  moved = renumbered number

  found_moved : (key : Text) (ps : List Place) → find (has_key key) (map moved ps) ≡ option_map moved (find (has_key key) ps)
  found_moved key [] = refl
  found_moved key (p ∷ ps) =
      ap (λ (o : Option Place). cond (has_key key p) (Some (moved p)) o) (found_moved key ps)
      ∙ cond_map (option_map moved) (has_key key p) (Some p) (find (has_key key) ps)

  awaited_moved : (key : Text) (ps : List Place) → is_awaited key (map moved ps) ≡ is_awaited key ps
  awaited_moved key ps = ap (λ (o : Option Place). option_map_or (λ place. is_none place.entry) o false) (found_moved key ps) ∙ at (find (has_key key) ps)
    where
      none_still : (o : Option ℕ) → is_none (option_map number o) ≡ is_none o
      none_still None = refl
      none_still (Some n) = refl

      at : (o : Option Place) → option_map_or (λ (place : Place). is_none place.entry) (option_map moved o) false ≡ option_map_or (λ (place : Place). is_none place.entry) o false
      at None = refl
      at (Some p) = none_still p.entry

  taken_moved : (entry : EntryTexts) (n : ℕ) (ps : List Place) → taken entry (number n) (map moved ps) ≡ map moved (taken entry n ps)
  taken_moved entry n [] = refl
  taken_moved entry n (p ∷ ps) =
      ap (λ (l : List Place). cond (has_key entry.key p) (moved (held_by entry n p) ∷ map moved ps) (moved p ∷ l)) (taken_moved entry n ps)
      ∙ cond_map (map moved) (has_key entry.key p) (held_by entry n p ∷ ps) (p ∷ taken entry n ps)

  named_moved : (key : Text) (ps : List Place) → named key (map moved ps) ≡ map moved (named key ps)
  named_moved key [] = refl
  named_moved key (p ∷ ps) =
      ap (λ (l : List Place). cond (has_key key p) (moved (named_again p) ∷ map moved ps) (moved p ∷ l)) (named_moved key ps)
      ∙ cond_map (map moved) (has_key key p) (named_again p ∷ ps) (p ∷ named key ps)

  named_in_moved : (entry : EntryTexts) (ps : List Place) → named_in entry (map moved ps) ≡ map moved (named_in entry ps)
  named_in_moved entry ps = at (crossref_text entry)
    where
      at : (o : Option Text) → option_map_or (λ text. named text (map moved ps)) o (map moved ps) ≡ map moved (option_map_or (λ text. named text ps) o ps)
      at None = refl
      at (Some text) = named_moved text ps

  entry_moved : (entry : EntryTexts) (n : ℕ) (ps : List Place) → read_entry entry (number n) (map moved ps) ≡ map moved (read_entry entry n ps)
  entry_moved entry n ps =
      both_ways_same (is_awaited entry.key (map moved ps)) (is_awaited entry.key ps)
      (named_in entry (taken entry (number n) (map moved ps))) (map moved ps) (map moved (named_in entry (taken entry n ps))) (map moved ps)
      (awaited_moved entry.key ps) (ap (named_in entry) (taken_moved entry n ps) ∙ named_in_moved entry (taken entry n ps)) refl
      ∙ cond_map (map moved) (is_awaited entry.key ps) (named_in entry (taken entry n ps)) ps

-- ---- no place has the key

module _ (key : Text) where
  abbrev IsFree : List Place → Type 0
  IsFree ps = list_any (has_key key) ps ≡ false

  not_awaited : (ps : List Place) → IsFree ps → is_awaited key ps ≡ false
  not_awaited ps free = ap (λ (o : Option Place). option_map_or (λ place. is_none place.entry) o false) (none ps free)
    where
      none : (ps : List Place) → IsFree ps → find (has_key key) ps ≡ None
      none [] free = refl
      none (p ∷ ps) free = let both = or_parts (has_key key p) (list_any (has_key key) ps) free in cond-false (has_key key p) (Some p) (find (has_key key) ps) both.0 ∙ none ps both.1

  free_two : (b c : Bool) → b ≡ false → c ≡ false → (b || c) ≡ false
  free_two b c one other = ap₂ (λ (x y : Bool). x || y) one other

  taken_free : (entry : EntryTexts) (n : ℕ) (ps : List Place) → IsFree ps → IsFree (taken entry n ps)
  taken_free entry n [] free = refl
  taken_free entry n (p ∷ ps) free =
      let both = or_parts (has_key key p) (list_any (has_key key) ps) free in
      ⊎_elim
      (λ is. ap (list_any (has_key key)) (cond-true (has_key entry.key p) (held_by entry n p ∷ ps) (p ∷ taken entry n ps) is) ∙ free_two (has_key key (held_by entry n p)) (list_any (has_key key) ps) (held is both.0) both.1)
      (λ no. ap (list_any (has_key key)) (cond-false (has_key entry.key p) (held_by entry n p ∷ ps) (p ∷ taken entry n ps) no) ∙ free_two (has_key key p) (list_any (has_key key) (taken entry n ps)) both.0 (taken_free entry n ps both.1))
      (cases_Bool (has_key entry.key p))
    where
      held : has_key entry.key p ≡ true → has_key key p ≡ false → has_key key (held_by entry n p) ≡ false
      held is none = at p.is_cited
        where
          at : (b : Bool) → same key (cond b p.spelled entry.key) ≡ false
          at true = none
          at false = same_of key entry.key key p.spelled refl (same-true entry.key p.spelled is) ∙ none

  named_free : (text : Text) (ps : List Place) → same key text ≡ false → IsFree ps → IsFree (named text ps)
  named_free text [] apart free = ap (λ (b : Bool). b || false) apart
  named_free text (p ∷ ps) apart free =
      let both = or_parts (has_key key p) (list_any (has_key key) ps) free in
      ⊎_elim
      (λ is. ap (list_any (has_key key)) (cond-true (has_key text p) (named_again p ∷ ps) (p ∷ named text ps) is) ∙ free)
      (λ no. ap (list_any (has_key key)) (cond-false (has_key text p) (named_again p ∷ ps) (p ∷ named text ps) no) ∙ free_two (has_key key p) (list_any (has_key key) (named text ps)) both.0 (named_free text ps apart both.1))
      (cases_Bool (has_key text p))

  entry_free : (entry : EntryTexts) (n : ℕ) (ps : List Place) → ((text : Text) → crossref_text entry ≡ Some text → same key text ≡ false) → IsFree ps → IsFree (read_entry entry n ps)
  entry_free entry n ps apart free = ⊎_elim
      (λ is. ap (list_any (has_key key)) (cond-true (is_awaited entry.key ps) (named_in entry (taken entry n ps)) ps is) ∙ at (crossref_text entry) refl)
      (λ no. ap (list_any (has_key key)) (cond-false (is_awaited entry.key ps) (named_in entry (taken entry n ps)) ps no) ∙ free)
      (cases_Bool (is_awaited entry.key ps))
    where
      at : (o : Option Text) → crossref_text entry ≡ o → IsFree (option_map_or (λ text. named text (taken entry n ps)) o (taken entry n ps))
      at None is = taken_free entry n ps free
      at (Some text) is = named_free text (taken entry n ps) (apart text is) (taken_free entry n ps free)

  read_free : (n : ℕ) (ps : List Place) (rest : List EntryTexts) → ((m : ℕ) (entry : EntryTexts) (text : Text) → slice_get rest m ≡ Some entry → crossref_text entry ≡ Some text → same key text ≡ false)
      → IsFree ps → IsFree (read_entries n ps rest)
  read_free n ps [] apart free = free
  read_free n ps (entry ∷ rest) apart free =
      read_free (suc n) (read_entry entry n ps) rest (λ m other text at says. apart (suc m) other text at says) (entry_free entry n ps (λ text says. apart zero entry text refl says) free)

-- entries whose keys have no place are not taken
none_read : (n : ℕ) (ps : List Place) (added : List EntryTexts) → AllByRecursion (λ entry. IsFree entry.key ps) added → read_entries n ps added ≡ ps
none_read n ps [] free = refl
none_read n ps (entry ∷ added) free =
    ap (λ (l : List Place). read_entries (suc n) l added) (cond-false (is_awaited entry.key ps) (named_in entry (taken entry n ps)) ps (not_awaited entry.key ps free.0))
    ∙ none_read (suc n) ps added free.1

-- ---- the entries before and after them

read_joined : (n : ℕ) (ps : List Place) (xs ys : List EntryTexts) → read_entries n ps (xs ++ ys) ≡ read_entries (n + length xs) (read_entries n ps xs) ys
read_joined n ps [] ys = let is : n ≡ n + 0 = omega arith in ap (λ (k : ℕ). read_entries k ps ys) is
read_joined n ps (x ∷ xs) ys =
    read_joined (suc n) (read_entry x n ps) xs ys
    ∙ (let is : suc n + length xs ≡ n + suc (length xs) = omega arith in ap (λ (k : ℕ). read_entries k (read_entries (suc n) (read_entry x n ps) xs) ys) is)

module _ (b m : ℕ) where
  before_moved : (n : ℕ) (ps : List Place) (rest : List EntryTexts) → n + length rest ≤ b → read_entries n (map (renumbered (past b m)) ps) rest ≡ map (renumbered (past b m)) (read_entries n ps rest)
  before_moved n ps [] early = refl
  before_moved n ps (entry ∷ rest) early =
      let here : n < b = omega (arith, early) in
      let later : suc n + length rest ≤ b = omega (arith, early) in
      ap (λ (l : List Place). read_entries (suc n) l rest)
      (ap (λ (k : ℕ). read_entry entry k (map (renumbered (past b m)) ps)) (sym (past_before b m n here)) ∙ entry_moved (past b m) entry n ps)
      ∙ before_moved (suc n) (read_entry entry n ps) rest later

  after_moved : (n : ℕ) (ps : List Place) (rest : List EntryTexts) → read_entries (m + (b + n)) (map (renumbered (past b m)) ps) rest ≡ map (renumbered (past b m)) (read_entries (b + n) ps rest)
  after_moved n ps [] = refl
  after_moved n ps (entry ∷ rest) =
      let more : suc (m + (b + n)) ≡ m + (b + suc n) = omega arith in
      let fewer : b + suc n ≡ suc (b + n) = omega arith in
      ap₂ (λ (k : ℕ) (l : List Place). read_entries k l rest) more
      (ap (λ (k : ℕ). read_entry entry k (map (renumbered (past b m)) ps)) (sym (past_after b m n)) ∙ entry_moved (past b m) entry (b + n) ps)
      ∙ after_moved (suc n) (read_entry entry (b + n) ps) rest
      ∙ ap (λ (k : ℕ). map (renumbered (past b m)) (read_entries k (read_entry entry (b + n) ps) rest)) fewer

empty_moved : (number : ℕ → ℕ) (ps : List Place) → empty_keys (map (renumbered number) ps) ≡ empty_keys ps
empty_moved number ps = all ps
  where
    is : (o : Option ℕ) → is_none (option_map number o) ≡ is_none o
    is None = refl
    is (Some n) = refl

    one : (b : Bool) (p : Place) (rest : List Place) → map (λ (place : Place). place.spelled) (cond b (renumbered number p ∷ filter (λ (place : Place). is_none place.entry) (map (renumbered number) rest)) (filter (λ (place : Place). is_none place.entry) (map (renumbered number) rest)))
        ≡ cond b (p.spelled ∷ empty_keys (map (renumbered number) rest)) (empty_keys (map (renumbered number) rest))
    one true p rest = refl
    one false p rest = refl

    other : (b : Bool) (p : Place) (rest : List Place) → map (λ (place : Place). place.spelled) (cond b (p ∷ filter (λ (place : Place). is_none place.entry) rest) (filter (λ (place : Place). is_none place.entry) rest))
        ≡ cond b (p.spelled ∷ empty_keys rest) (empty_keys rest)
    other true p rest = refl
    other false p rest = refl

    all : (rest : List Place) → empty_keys (map (renumbered number) rest) ≡ empty_keys rest
    all [] = refl
    all (p ∷ rest) =
        one (is_none (option_map number p.entry)) p rest
        ∙ ap₂ (λ (b : Bool) (l : List Text). cond b (p.spelled ∷ l) l) (is p.entry) (all rest)
        ∙ sym (other (is_none p.entry) p rest)

-- ---- the cited keys

none_among : (key : Text) (p : Text → Bool) (keys : List Text) → list_any (same key) keys ≡ false → list_any (same key) (filter p keys) ≡ false
none_among key p [] none = refl
none_among key p (other ∷ keys) none =
    let both = or_parts (same key other) (list_any (same key) keys) none in
    ⊎_elim
    (λ is. ap (list_any (same key)) (cond-true (p other) (other ∷ filter p keys) (filter p keys) is) ∙ ap₂ (λ (b c : Bool). b || c) both.0 (none_among key p keys both.1))
    (λ no. ap (list_any (same key)) (cond-false (p other) (other ∷ filter p keys) (filter p keys) no) ∙ none_among key p keys both.1)
    (cases_Bool (p other))

none_once : (key : Text) (keys : List Text) → list_any (same key) keys ≡ false → list_any (same key) (each_once keys) ≡ false
none_once key [] none = refl
none_once key (other ∷ keys) none =
    let both = or_parts (same key other) (list_any (same key) keys) none in
    ap₂ (λ (b c : Bool). b || c) both.0 (none_among key (λ k. not (same k other)) (each_once keys) (none_once key keys both.1))

none_cited : (key : Text) (keys : List Text) → list_any (same key) keys ≡ false → list_any (has_key key) (map cited_place keys) ≡ false
none_cited key [] none = refl
none_cited key (other ∷ keys) none =
    let both = or_parts (same key other) (list_any (same key) keys) none in
    ap₂ (λ (b c : Bool). b || c) both.0 (none_cited key keys both.1)

cited_moved : (number : ℕ → ℕ) (keys : List Text) → map (renumbered number) (map cited_place keys) ≡ map cited_place keys
cited_moved number [] = refl
cited_moved number (key ∷ keys) = ap (λ (l : List Place). cited_place key ∷ l) (cited_moved number keys)

either_none : {X : Type 0} (p q : X → Bool) (xs : List X) → list_any (λ x. p x || q x) xs ≡ false → (list_any p xs ≡ false) × (list_any q xs ≡ false)
either_none p q [] none = (refl, refl)
either_none p q (x ∷ xs) none =
    let both = or_parts (p x || q x) (list_any (λ x. p x || q x) xs) none in
    let here = or_parts (p x) (q x) both.0 in
    let rest = either_none p q xs both.1 in
    (ap₂ (λ (b c : Bool). b || c) here.0 rest.0, ap₂ (λ (b c : Bool). b || c) here.1 rest.1)

-- ---- the law

module _ (cited : List Text) (plain : are_all_cited cited ≡ false) where
  abbrev start : List Place
  start = map cited_place (cited_keys cited)

  -- no place has the key of an added entry
  all_free : (first added : List EntryTexts) → NoneNamesAny (keys_of added) first → list_any (λ key. list_any (same key) (keys_of added)) cited ≡ false
      → AllByRecursion (λ entry. IsFree entry.key (read_entries 0 start first)) added
  all_free first [] apart others = tt
  all_free first (entry ∷ added) apart others =
      let both = either_none (λ key. same key entry.key) (λ key. list_any (same key) (keys_of added)) cited others in
      let named : (n : ℕ) (other : EntryTexts) (text : Text) → slice_get first n ≡ Some other → crossref_text other ≡ Some text → (same text entry.key ≡ false) × (list_any (same text) (keys_of added) ≡ false) =
      λ n other text at says. or_parts (same text entry.key) (list_any (same text) (keys_of added)) (apart n other text at says) in (
        read_free entry.key 0 start first (λ n other text at says. same_comm entry.key text ∙ (named n other text at says).0)
            (none_cited entry.key (cited_keys cited) (none_once entry.key (filter (λ key. not (is_star key)) cited) (none_among entry.key (λ key. not (is_star key)) cited (turned entry.key cited ∙ both.0)))),
        all_free first added (λ n other text at says. (named n other text at says).1) both.1,
      )
    where
      turned : (key : Text) (keys : List Text) → list_any (same key) keys ≡ list_any (λ other. same other key) keys
      turned key [] = refl
      turned key (other ∷ keys) = ap₂ (λ (b c : Bool). b || c) (same_comm key other) (turned key keys)

  names : NamesItsPlace cited
  names entries places text =
      cond-false (are_all_cited cited && is_missing entries text && list_any (same text) (cited_keys cited)) (option_and_then (within places) (first_same text (cited_keys cited))) (place_with text places)
      (ap (λ (b : Bool). b && is_missing entries text && list_any (same text) (cited_keys cited)) plain)

  plain_places : (entries : List EntryTexts) → places_of entries cited ≡ read_entries 0 start entries
  plain_places entries = cond-false (are_all_cited cited) (read_all (cited_keys cited) 0 (map cited_place (keys_before_star cited)) entries) (read_entries 0 start entries) plain

  module _ (first added last : List EntryTexts) (apart : NoneNamesAny (keys_of added) (first ++ last)) (others : list_any (λ key. list_any (same key) (keys_of added)) cited ≡ false) where
    abbrev number : ℕ → ℕ
    number = past (length first) (length added)

    abbrev before : List Place
    before = read_entries 0 start first

    before_still : before ≡ map (renumbered number) before
    before_still =
        ap (λ (l : List Place). read_entries 0 l first) (sym (cited_moved number (cited_keys cited)))
        ∙ before_moved (length first) (length added) 0 start first (let is : 0 + length first ≤ length first = omega arith in is)

    none_taken : read_entries (0 + length first) before added ≡ before
    none_taken = none_read (0 + length first) before added (all_free first added (λ n entry text at says. apart n entry text (get_first first last n entry at) says) others)

    places_moved : places_of (first ++ (added ++ last)) cited ≡ map (renumbered number) (places_of (first ++ last) cited)
    places_moved =
        plain_places (first ++ (added ++ last))
        ∙ read_joined 0 start first (added ++ last)
        ∙ read_joined (0 + length first) before added last
        ∙ (let is : 0 + length first + length added ≡ length added + (length first + 0) = omega arith in
        ap₂ (λ (k : ℕ) (l : List Place). read_entries k l last) is (none_taken ∙ before_still))
        ∙ after_moved (length first) (length added) 0 before last
        ∙ (let is : length first + 0 ≡ 0 + length first = omega arith in ap (λ (k : ℕ). map (renumbered number) (read_entries k before last)) is)
        ∙ ap (map (renumbered number)) (sym (plain_places (first ++ last) ∙ read_joined 0 start first last))

    are : AreRenumbered (first ++ last) (first ++ (added ++ last)) (places_of (first ++ last) cited) (places_of (first ++ (added ++ last)) cited) number (λ k. k)
    are = record {
      entry_at = λ n. get_past first added last n;
      place_at = λ k. ap (λ (l : List Place). slice_get l k) places_moved ∙ slice_get-map (renumbered number) (places_of (first ++ last) cited) k;
      named_at = λ n entry text at says.
          ap (first_same text) (ap (map (λ (place : Place). place.spelled)) places_moved ∙ spelled_still number (places_of (first ++ last) cited))
          ∙ itself (place_with text (places_of (first ++ last) cited));
      in_order = λ j k. refl;
      grows = λ k. le_refl k;
    }
      where
        itself : (o : Option ℕ) → o ≡ option_map (λ k. k) o
        itself None = refl
        itself (Some k) = refl

    list_the_same : ListTheSame (first ++ last) (first ++ (added ++ last)) cited
    list_the_same = record {
      listed = λ least.
          ap (λ (l : List Place). filter_map (record_at (first ++ (added ++ last)) cited least (places_of (first ++ (added ++ last)) cited)) (enumerate_from 0 l)) places_moved
          ∙ records_still cited names (first ++ last) (first ++ (added ++ last)) (places_of (first ++ last) cited) (places_of (first ++ (added ++ last)) cited) number (λ k. k) are least 0 0 (places_of (first ++ last) cited) (λ j less. refl);
      unknown = ap₂ (λ (l m : List Text). l ++ m) (ap empty_keys places_moved ∙ empty_moved number (places_of (first ++ last) cited))
          (none_after (first ++ (added ++ last)) ∙ sym (none_after (first ++ last)));
    }
      where
        none_after : (es : List EntryTexts) → missing_after_star es cited ≡ []
        none_after es = cond-false (are_all_cited cited) (filter (is_missing es) (drop (length (keys_before_star cited)) (cited_keys cited))) [] plain

pub other-entries-keep-lists : other_entries_keep_lists
other-entries-keep-lists first added last apart cited none = list_the_same cited none.no_star first added last apart none.others
