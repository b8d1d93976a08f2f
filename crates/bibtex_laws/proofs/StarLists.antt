-- Entries that nothing names add their records to the list for `*` alone, and change no other.
use Rattle.std.proofs.Common.{◌≡◌, ◌∙◌, ℕ, zero, suc, ◌+◌, ◌≤◌, Bool, true, false, cond, ◌&&◌, ◌||◌, List, [], ◌∷◌, ◌++◌, Option, Some, None, option_map, option_and_then, slice_get, length, map, filter_map, refl, sym, ap, ap₂, arith, zero-add}
use Rattle.std.specs.List.{list_any, enumerate_from, cons_option}
use Rattle.std.proofs.Math.Bool.{and-false}
use Rattle.std.proofs.lemmas.Bool.{cond-false, or_parts}
use Rattle.std.proofs.lemmas.Option.{none-some, same_Some, slice_get-map}
use Rattle.std.proofs.lemmas.List.{map-append}
use Rattle.bib_spec.specs.Text.{Text, same}
use Rattle.bib_spec.specs.Records.{EntryTexts, keys_of}
use Rattle.bib_spec.proofs.Names.{same_comm}
use Rattle.edit_spec.specs.Edits.{has_same}
use Rattle.bibtex_spec.specs.Places.{Place, added_place, places_of}
use Rattle.bibtex_spec.specs.Listed.{first_same, is_missing, within, place_with, ListedRecord, listed_record, record_at}
use Rattle.bibtex_laws.specs.StarLists.{star_list, heading, entry_heading, AreStrangers, GainsRecords, star_gains_strangers}
use Rattle.bibtex_laws.proofs.StarPlaces.{star_alone, new_places, new_entries, seen_after, star_places, past, past_before, past_after, past_grows, past_order, more_by, get_past, skipped, renumbered, places_joined, seen_is, places_moved, places_still}
use Rattle.bibtex_laws.proofs.RenumberedRecords.{NamesItsPlace, AreRenumbered, records_still}

star_names : NamesItsPlace star_alone
star_names entries places text =
    cond-false (is_missing entries text && false) (option_and_then (within places) None) (place_with text places) (and-false (is_missing entries text))

-- ---- the keys of places

abbrev spelled_of : List Place → List Text
spelled_of places = map (λ place. place.spelled) places

-- a text that is none of these keys finds what it found without them
first_past : (text : Text) (xs ys zs : List Text) → list_any (same text) ys ≡ false → first_same text (xs ++ (ys ++ zs)) ≡ option_map (past (length xs) (length ys)) (first_same text (xs ++ zs))
first_past text [] ys zs none_ = beyond ys none_
  where
    twice : (m : ℕ) (o : Option ℕ) → option_map suc (option_map (more_by m) o) ≡ option_map (more_by (suc m)) o
    twice m None = refl
    twice m (Some n) = refl

    nothing : (o : Option ℕ) → o ≡ option_map (more_by zero) o
    nothing None = refl
    nothing (Some n) = refl

    beyond : (ys : List Text) → list_any (same text) ys ≡ false → first_same text (ys ++ zs) ≡ option_map (more_by (length ys)) (first_same text zs)
    beyond [] none_ = nothing (first_same text zs)
    beyond (y ∷ ys) none_ =
        let both = or_parts (same text y) (list_any (same text) ys) none_ in
        cond-false (same text y) (Some 0) (option_map suc (first_same text (ys ++ zs))) both.0
        ∙ ap (option_map suc) (beyond ys both.1) ∙ twice (length ys) (first_same text zs)
first_past text (x ∷ xs) ys zs none_ =
    ap (λ (o : Option ℕ). cond (same text x) (Some 0) (option_map suc o)) (first_past text xs ys zs none_)
    ∙ at (same text x) (first_same text (xs ++ zs))
  where
    past_suc : (o : Option ℕ) → option_map suc (option_map (past (length xs) (length ys)) o) ≡ option_map (past (suc (length xs)) (length ys)) (option_map suc o)
    past_suc None = refl
    past_suc (Some n) = refl

    at : (b : Bool) (o : Option ℕ) → cond b (Some 0) (option_map suc (option_map (past (length xs) (length ys)) o)) ≡ option_map (past (suc (length xs)) (length ys)) (cond b (Some 0) (option_map suc o))
    at true o = refl
    at false o = past_suc o

none_new : (text : Text) (n : ℕ) (seen : List Text) (entries : List EntryTexts) → list_any (same text) (keys_of entries) ≡ false → list_any (same text) (spelled_of (new_places n seen entries)) ≡ false
none_new text n seen [] none_ = refl
none_new text n seen (entry ∷ entries) none_ =
    let both = or_parts (same text entry.key) (list_any (same text) (keys_of entries)) none_ in
    at (list_any (same entry.key) seen) both.0 (none_new text (suc n) (entry.key ∷ seen) entries both.1)
  where
    at : (b : Bool) → same text entry.key ≡ false → list_any (same text) (spelled_of (new_places (suc n) (entry.key ∷ seen) entries)) ≡ false
        → list_any (same text) (spelled_of (cond b (new_places (suc n) (entry.key ∷ seen) entries) (added_place [] entry n ∷ new_places (suc n) (entry.key ∷ seen) entries))) ≡ false
    at true no_ rest = rest
    at false no_ rest = ap₂ (λ (b c : Bool). b || c) no_ rest

length_spelled : (places : List Place) → length (spelled_of places) ≡ length places
length_spelled [] = refl
length_spelled (p ∷ places) = ap suc (length_spelled places)

pub spelled_still : (number : ℕ → ℕ) (places : List Place) → spelled_of (map (renumbered number) places) ≡ spelled_of places
spelled_still number [] = refl
spelled_still number (p ∷ places) = ap (λ (l : List Text). p.spelled ∷ l) (spelled_still number places)

-- ---- records of places in a row

rows_joined : (f : ℕ × Place → Option ListedRecord) (n : ℕ) (xs ys : List Place)
    → filter_map f (enumerate_from n (xs ++ ys)) ≡ filter_map f (enumerate_from n xs) ++ filter_map f (enumerate_from (n + length xs) ys)
rows_joined f n [] ys = (let is : n ≡ n + 0 = omega arith in ap (λ (k : ℕ). filter_map f (enumerate_from k ys)) is)
rows_joined f n (x ∷ xs) ys =
    ap (cons_option (f (n, x))) (rows_joined f (n + 1) xs ys ∙ (let is : n + 1 + length xs ≡ n + suc (length xs) = omega arith in ap (λ (k : ℕ). filter_map f (enumerate_from (n + 1) xs) ++ filter_map f (enumerate_from k ys)) is))
    ∙ join (f (n, x)) (filter_map f (enumerate_from (n + 1) xs)) (filter_map f (enumerate_from (n + suc (length xs)) ys))
  where
    join : (o : Option ListedRecord) (l m : List ListedRecord) → cons_option o (l ++ m) ≡ cons_option o l ++ m
    join None l m = refl
    join (Some r) l m = refl

-- each entry that gets a place has a record, with its type and key
headings_are : (whole : List EntryTexts) (least : ℕ) (places : List Place) (k n : ℕ) (seen : List Text) (entries : List EntryTexts)
    → ((j : ℕ) (entry : EntryTexts) → slice_get entries j ≡ Some entry → slice_get whole (n + j) ≡ Some entry)
    → map heading (filter_map (record_at whole star_alone least places) (enumerate_from k (new_places n seen entries))) ≡ map entry_heading (new_entries seen entries)
headings_are whole least places k n seen [] there = refl
headings_are whole least places k n seen (entry ∷ entries) there =
    at (list_any (same entry.key) seen) (λ j. headings_are whole least places j (suc n) (entry.key ∷ seen) entries (λ i other is.
    (let next : suc n + i ≡ n + suc i = omega arith in ap (slice_get whole) next) ∙ there (suc i) other is))
  where
    is_there : slice_get whole n ≡ Some entry
    is_there = (let is : n ≡ n + 0 = omega arith in ap (slice_get whole) is) ∙ there zero entry refl

    at : (b : Bool)
        → ((j : ℕ) → map heading (filter_map (record_at whole star_alone least places) (enumerate_from j (new_places (suc n) (entry.key ∷ seen) entries))) ≡ map entry_heading (new_entries (entry.key ∷ seen) entries))
        → map heading (filter_map (record_at whole star_alone least places) (enumerate_from k (cond b (new_places (suc n) (entry.key ∷ seen) entries) (added_place [] entry n ∷ new_places (suc n) (entry.key ∷ seen) entries))))
        ≡ map entry_heading (cond b (new_entries (entry.key ∷ seen) entries) (entry ∷ new_entries (entry.key ∷ seen) entries))
    at true rest = rest k
    at false rest =
        ap (λ (o : Option EntryTexts). map heading (cons_option (option_map (listed_record whole star_alone least places k (added_place [] entry n)) o)
        (filter_map (record_at whole star_alone least places) (enumerate_from (k + 1) (new_places (suc n) (entry.key ∷ seen) entries))))) is_there
        ∙ ap (λ (l : List (Text × Text)). entry_heading entry ∷ l) (rest (k + 1))

-- entries with new keys that differ all get a place
all_new : (seen : List Text) (entries : List EntryTexts) → has_same (keys_of entries) ≡ false → ((n : ℕ) (entry : EntryTexts) → slice_get entries n ≡ Some entry → list_any (same entry.key) seen ≡ false)
    → new_entries seen entries ≡ entries
all_new seen [] differ fresh = refl
all_new seen (entry ∷ entries) differ fresh =
    let both = or_parts (list_any (same entry.key) (keys_of entries)) (has_same (keys_of entries)) differ in
    cond-false (list_any (same entry.key) seen) (new_entries (entry.key ∷ seen) entries) (entry ∷ new_entries (entry.key ∷ seen) entries) (fresh zero entry refl)
    ∙ ap (λ (l : List EntryTexts). entry ∷ l) (all_new (entry.key ∷ seen) entries both.1 (λ n other at.
    ap₂ (λ (b c : Bool). b || c) (same_comm other.key entry.key ∙ unlike entries both.0 n other at) (fresh (suc n) other at)))
  where
    unlike : (rest : List EntryTexts) → list_any (same entry.key) (keys_of rest) ≡ false → (n : ℕ) (other : EntryTexts) → slice_get rest n ≡ Some other → same entry.key other.key ≡ false
    unlike [] none_ n other at = absurd (none-some other at)
    unlike (first ∷ rest) none_ zero other at = ap (λ (e : EntryTexts). same entry.key e.key) (sym (same_Some first other at)) ∙ (or_parts (same entry.key first.key) (list_any (same entry.key) (keys_of rest)) none_).0
    unlike (first ∷ rest) none_ (suc n) other at = unlike rest (or_parts (same entry.key first.key) (list_any (same entry.key) (keys_of rest)) none_).1 n other at

-- ---- the law

pub get_first : {X : Type 0} (xs ys : List X) (j : ℕ) (x : X) → slice_get xs j ≡ Some x → slice_get (xs ++ ys) j ≡ Some x
get_first [] ys j x at = absurd (none-some x at)
get_first (y ∷ xs) ys zero x at = at
get_first (y ∷ xs) ys (suc j) x at = get_first xs ys j x at

-- no key of the added entries was seen before them
unseen : (key : Text) (seen : List Text) (entries : List EntryTexts) → list_any (same key) seen ≡ false → list_any (same key) (keys_of entries) ≡ false → list_any (same key) (seen_after seen entries) ≡ false
unseen key seen entries fresh none_ = seen_is key seen entries none_ ∙ fresh

apart_back : (added others : List EntryTexts) → ((n : ℕ) (entry : EntryTexts) → slice_get others n ≡ Some entry → list_any (same entry.key) (keys_of added) ≡ false)
    → (n : ℕ) (entry : EntryTexts) → slice_get added n ≡ Some entry → list_any (same entry.key) (keys_of others) ≡ false
apart_back added [] apart n entry at = refl
apart_back added (other ∷ others) apart n entry at =
    ap₂ (λ (b c : Bool). b || c) (same_comm entry.key other.key ∙ unlike added (apart zero other refl) n at) (apart_back added others (λ m. apart (suc m)) n entry at)
  where
    unlike : (rest : List EntryTexts) → list_any (same other.key) (keys_of rest) ≡ false → (n : ℕ) → slice_get rest n ≡ Some entry → same other.key entry.key ≡ false
    unlike [] none_ n at = absurd (none-some entry at)
    unlike (first ∷ rest) none_ zero at = ap (λ (e : EntryTexts). same other.key e.key) (sym (same_Some first entry at)) ∙ (or_parts (same other.key first.key) (list_any (same other.key) (keys_of rest)) none_).0
    unlike (first ∷ rest) none_ (suc n) at = unlike rest (or_parts (same other.key first.key) (list_any (same other.key) (keys_of rest)) none_).1 n at

module _ (first added last : List EntryTexts) (strange : AreStrangers added (first ++ last)) where
  abbrev seen : List Text
  seen = seen_after [] first

  abbrev A : List Place
  A = new_places 0 [] first

  abbrev B : List Place
  B = new_places (length first) seen added

  abbrev C : List Place
  C = new_places (length first) seen last

  abbrev number : ℕ → ℕ
  number = past (length first) (length added)

  abbrev spot : ℕ → ℕ
  spot = past (length A) (length B)

  abbrev ps : List Place
  ps = A ++ C

  abbrev qs : List Place
  qs = A ++ (B ++ map (renumbered number) C)

  old_places : places_of (first ++ last) star_alone ≡ ps
  old_places = star_places (first ++ last) ∙ places_joined 0 [] first last ∙ ap (λ (k : ℕ). A ++ new_places k seen last) (zero-add (length first))

  new_places_are : places_of (first ++ (added ++ last)) star_alone ≡ qs
  new_places_are =
      star_places (first ++ (added ++ last)) ∙ places_joined 0 [] first (added ++ last) ∙ ap (λ (k : ℕ). A ++ new_places k seen (added ++ last)) (zero-add (length first))
      ∙ ap (λ (l : List Place). A ++ l) (places_joined (length first) seen added last
      ∙ ap (λ (l : List Place). B ++ l)
      ((let is : length first + length added ≡ length added + (length first + 0) = omega arith in ap (λ (k : ℕ). new_places k (seen_after seen added) last) is)
      ∙ places_moved (length first) (length added) 0 seen (seen_after seen added) last (λ j entry at. seen_is entry.key seen added (strange.keys (length first + j) entry (skipped first last j ∙ at)))
      ∙ (let is : length first + 0 ≡ length first = omega arith in ap (λ (k : ℕ). map (renumbered number) (new_places k seen last)) is)))

  A_still : map (renumbered number) A ≡ A
  A_still = places_still (length first) (length added) 0 [] first (let is : 0 + length first ≤ length first = omega arith in is)

  renumbered_all : A ++ map (renumbered number) C ≡ map (renumbered number) ps
  renumbered_all = ap (λ (l : List Place). l ++ map (renumbered number) C) (sym A_still) ∙ sym (map-append (renumbered number) A C)

  are : AreRenumbered (first ++ last) (first ++ (added ++ last)) ps qs number spot
  are = record {
    entry_at = λ n. get_past first added last n;
    place_at = λ k. get_past A B (map (renumbered number) C) k ∙ ap (λ (l : List Place). slice_get l k) renumbered_all ∙ slice_get-map (renumbered number) ps k;
    named_at = λ n entry text at says. named text (strange.crossrefs n entry text at says);
    in_order = past_order (length A) (length B);
    grows = past_grows (length A) (length B);
  }
    where
      named : (text : Text) → list_any (same text) (keys_of added) ≡ false → place_with text qs ≡ option_map spot (place_with text ps)
      named text none_ =
          ap (first_same text) (map-append (λ (place : Place). place.spelled) A (B ++ map (renumbered number) C)
          ∙ ap (λ (l : List Text). spelled_of A ++ l) (map-append (λ (place : Place). place.spelled) B (map (renumbered number) C) ∙ ap (λ (l : List Text). spelled_of B ++ l) (spelled_still number C)))
          ∙ first_past text (spelled_of A) (spelled_of B) (spelled_of C) (none_new text (length first) seen added none_)
          ∙ ap₂ (λ (a b : ℕ). option_map (past a b) (first_same text (spelled_of A ++ spelled_of C))) (length_spelled A) (length_spelled B)
          ∙ sym (ap (λ (l : List Text). option_map spot (first_same text l)) (map-append (λ (place : Place). place.spelled) A C))

  module _ (least : ℕ) where
    abbrev old_rows : ℕ → List Place → List ListedRecord
    old_rows k places = filter_map (record_at (first ++ last) star_alone least ps) (enumerate_from k places)

    abbrev new_rows : ℕ → List Place → List ListedRecord
    new_rows k places = filter_map (record_at (first ++ (added ++ last)) star_alone least qs) (enumerate_from k places)

    first_rows : new_rows 0 A ≡ old_rows 0 A
    first_rows =
        ap (new_rows 0) (sym A_still)
        ∙ records_still star_alone star_names (first ++ last) (first ++ (added ++ last)) ps qs number spot are least 0 0 A (λ j less. ap (past (length A) (length B)) (zero-add j) ∙ past_before (length A) (length B) j less ∙ sym (zero-add j))

    last_rows : new_rows (length A + length B) (map (renumbered number) C) ≡ old_rows (length A) C
    last_rows = records_still star_alone star_names (first ++ last) (first ++ (added ++ last)) ps qs number spot are least (length A) (length A + length B) C
        (λ j less. past_after (length A) (length B) j ∙ (let is : length B + (length A + j) ≡ length A + length B + j = omega arith in is))

    old_list : star_list (first ++ last) least ≡ old_rows 0 A ++ old_rows (length A) C
    old_list =
        ap (λ (l : List Place). filter_map (record_at (first ++ last) star_alone least l) (enumerate_from 0 l)) old_places
        ∙ rows_joined (record_at (first ++ last) star_alone least ps) 0 A C ∙ ap (λ (k : ℕ). old_rows 0 A ++ old_rows k C) (zero-add (length A))

    new_list : star_list (first ++ (added ++ last)) least ≡ old_rows 0 A ++ (new_rows (length A) B ++ old_rows (length A) C)
    new_list =
        ap (λ (l : List Place). filter_map (record_at (first ++ (added ++ last)) star_alone least l) (enumerate_from 0 l)) new_places_are
        ∙ rows_joined (record_at (first ++ (added ++ last)) star_alone least qs) 0 A (B ++ map (renumbered number) C)
        ∙ ap (λ (k : ℕ). new_rows 0 A ++ new_rows k (B ++ map (renumbered number) C)) (zero-add (length A))
        ∙ ap₂ (λ (l m : List ListedRecord). l ++ m) first_rows
        (rows_joined (record_at (first ++ (added ++ last)) star_alone least qs) (length A) B (map (renumbered number) C)
        ∙ ap (λ (l : List ListedRecord). new_rows (length A) B ++ l) last_rows)

    first_headings : map heading (old_rows 0 A) ≡ map heading (star_list first least)
    first_headings =
        headings_are (first ++ last) least ps 0 0 [] first (λ j entry at. (let is : 0 + j ≡ j = omega arith in ap (slice_get (first ++ last)) is) ∙ get_first first last j entry at)
        ∙ sym (ap (λ (l : List Place). map heading (filter_map (record_at first star_alone least l) (enumerate_from 0 l))) (star_places first)
        ∙ headings_are first least A 0 0 [] first (λ j entry at. (let is : 0 + j ≡ j = omega arith in ap (slice_get first) is) ∙ at))

    new_headings : map heading (new_rows (length A) B) ≡ map entry_heading added
    new_headings =
        headings_are (first ++ (added ++ last)) least qs (length A) (length first) seen added (λ j entry at. skipped first (added ++ last) j ∙ get_first added last j entry at)
        ∙ ap (map entry_heading) (all_new seen added strange.differ (λ n entry at.
        unseen entry.key [] first refl (apart_back added first (λ m other there. strange.keys m other (get_first first last m other there)) n entry at)))

    pub gains : GainsRecords first added least (star_list (first ++ last) least) (star_list (first ++ (added ++ last)) least)
    gains = record {
      before = old_rows 0 A;
      gained = new_rows (length A) B;
      after = old_rows (length A) C;
      shorter_is = old_list;
      longer_is = new_list;
      before_are = first_headings;
      gained_are = new_headings;
    }

pub star-gains-strangers : star_gains_strangers
star-gains-strangers first added last strange least = gains first added last strange least
