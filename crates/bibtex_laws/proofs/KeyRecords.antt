-- The records of the places where keys alone are cited, in a file whose parents are last, are those of the dialect.
use Rattle.std.proofs.Common.{◌≡◌, ◌≢◌, ◌∙◌, ℕ, zero, suc, ◌+◌, ◌<◌, ◌==◌, Bool, true, false, cond, not, ◌&&◌, ◌||◌, List, [], ◌∷◌, Option, Some, None, option_map, option_and_then, slice_get, length, map, find, filter_map, count_by, Contains, ◌⊎◌, inl, inr, ⊎_elim, refl, sym, ap, ap₂, subst, arith, zero-add, eqb-true}
use Rattle.std.specs.List.{list_any, enumerate_from, cons_option, AllByRecursion}
use Rattle.std.specs.Option.{option_map_or}
use Rattle.std.proofs.lemmas.Bool.{cond-false, and_parts, true≢false}
use Rattle.std.proofs.lemmas.Option.{none-some, same_Some, option_and_then_some}
use Rattle.std.proofs.lemmas.List.Elements.{All-contains_itself, recursion_from_All}
use Rattle.bib_spec.specs.Text.{Text, same}
use Rattle.bib_spec.specs.Texts.{is_empty}
use Rattle.bib_spec.specs.Records.{EntryTexts, crossref_text, keys_of, entry_named, target_of, target, other_than, parent, cited_by_key, is_parent_of}
use Rattle.bib_spec.proofs.Names.{same-true, true-same, same_comm, both_true}
use Rattle.bib_spec.proofs.Places.{first_is}
use Rattle.bib_spec.proofs.Parents.{named_within}
use Rattle.bibtex_spec.specs.Places.{each_once, cited_keys, are_all_cited, keys_before_star, Place, cited_place, read_entries, read_all, places_of}
use Rattle.bibtex_spec.specs.Listed.{first_same}
use Rattle.bibtex_spec.specs.ListLaws.{IsOrdinary, ParentsAreLast, AreOrdinaryKeys}
use Rattle.bibtex_laws.proofs.DialectRecords.{key_get, only_named}
use Rattle.bibtex_laws.proofs.NumberLists.{is_in, NoneTwice, is_itself, once_is, count_below, count_alike, count_once}
use Rattle.bibtex_laws.proofs.EachOnce.{all_weaker, all_both, all_joined, all_once, all_itself, each_differ, differ_parts, cited_are, found_once}
use Rattle.bibtex_laws.proofs.KeyPlaces.{Differ}
use Rattle.bibtex_laws.proofs.CitedReading.{fresh_place, counted_text, is_text, is_key_of, cited_text, texts_after, later_texts, place_after, texts_are, texts_differ, spelled_is, spelled_as_entry, entry_from, key_of, text_of, entry_there, names_parent, all_read}

-- ---- lists by position

pub get_mapped : {X Y : Type 0} (h : X → Y) (xs : List X) (i : ℕ) (x : X) → slice_get xs i ≡ Some x → slice_get (map h xs) i ≡ Some (h x)
get_mapped h [] i x at = absurd (none-some x at)
get_mapped h (y ∷ ys) zero x at = ap (option_map h) at
get_mapped h (y ∷ ys) (suc i) x at = get_mapped h ys i x at

pub in_range : (entries : List EntryTexts) (k : ℕ) → k < length entries → (entry : EntryTexts) × (slice_get entries k ≡ Some entry)
in_range [] k less = absurd (omega (arith, less))
in_range (entry ∷ entries) zero less = (entry, refl)
in_range (entry ∷ entries) (suc k) less = in_range entries k (omega (arith, less))

pub number_low : (entries : List EntryTexts) (k : ℕ) (entry : EntryTexts) → slice_get entries k ≡ Some entry → k < length entries
number_low [] k entry at = absurd (none-some entry at)
number_low (first ∷ entries) zero entry at = omega arith
number_low (first ∷ entries) (suc k) entry at = let less = number_low entries k entry at in omega (arith, less)

entry_with : (entries : List EntryTexts) (m : ℕ) (key : Text) → slice_get (keys_of entries) m ≡ Some key → (entry : EntryTexts) × (slice_get entries m ≡ Some entry) × (entry.key ≡ key)
entry_with [] m key at = absurd (none-some key at)
entry_with (first ∷ entries) zero key at = (first, refl, same_Some first.key key at)
entry_with (first ∷ entries) (suc m) key at = entry_with entries m key at

-- what a list of numbered places gives, place by place
pub each_place : {R : Type 0} (g : ℕ × Place → Option R) (r : Text → Option R) (f : Text → Place) (n : ℕ) (xs : List Text)
    → ((i : ℕ) (x : Text) → slice_get xs i ≡ Some x → g (n + i, f x) ≡ r x) → filter_map g (enumerate_from n (map f xs)) ≡ filter_map r xs
each_place g r f n [] alike = refl
each_place g r f n (x ∷ xs) alike =
    ap₂ cons_option
    ((let is : n ≡ n + 0 = omega arith in ap (λ (k : ℕ). g (k, f x)) is) ∙ alike zero x refl)
    (each_place g r f (n + 1) xs (λ i y at. (let is : n + 1 + i ≡ n + suc i = omega arith in ap (λ (k : ℕ). g (k, f y)) is) ∙ alike (suc i) y at))

-- ---- the first text that is the same

pub first_there : (t : Text) (xs : List Text) → list_any (same t) xs ≡ true → (j : ℕ) × (y : Text) × (first_same t xs ≡ Some j) × (slice_get xs j ≡ Some y) × (same t y ≡ true)
first_there t [] is = absurd (true≢false (sym is))
first_there t (x ∷ xs) is = split (same t x) refl is (first_there t xs)
  where
    split : (b : Bool) → same t x ≡ b → (b || list_any (same t) xs) ≡ true
        → (list_any (same t) xs ≡ true → (j : ℕ) × (y : Text) × (first_same t xs ≡ Some j) × (slice_get xs j ≡ Some y) × (same t y ≡ true))
        → (j : ℕ) × (y : Text) × (cond b (Some 0) (option_map suc (first_same t xs)) ≡ Some j) × (slice_get (x ∷ xs) j ≡ Some y) × (same t y ≡ true)
    split true here is rest = (zero, x, refl, refl, here)
    split false other is rest = let one = rest is in (suc one.0, one.1, ap (option_map suc) one.2, one.3, one.4)

pub found_same : (t : Text) (cited : List Text) (c : Text) → find (same t) cited ≡ Some c → same t c ≡ true
found_same t [] c found = absurd (none-some c found)
found_same t (x ∷ cited) c found = split (same t x) refl found (found_same t cited c)
  where
    split : (b : Bool) → same t x ≡ b → cond b (Some x) (find (same t) cited) ≡ Some c → (find (same t) cited ≡ Some c → same t c ≡ true) → same t c ≡ true
    split true here found rest = ap (same t) (sym (same_Some x c found)) ∙ here
    split false other found rest = rest found

pub found_of_all : (P : Text → Type 0) (t : Text) (cited : List Text) (c : Text) → AllByRecursion P cited → find (same t) cited ≡ Some c → P c
found_of_all P t [] c all found = absurd (none-some c found)
found_of_all P t (x ∷ cited) c all found = split (same t x) found (found_of_all P t cited c all.1)
  where
    split : (b : Bool) → cond b (Some x) (find (same t) cited) ≡ Some c → (find (same t) cited ≡ Some c → P c) → P c
    split true found rest = subst P (same_Some x c found) all.0
    split false found rest = rest found

pub is_in_cons : (m : ℕ) (o : Option ℕ) (ns : List ℕ) → is_in m (cons_option o ns) ≡ (option_map_or (λ k. k == m) o false || is_in m ns)
is_in_cons m None ns = refl
is_in_cons m (Some k) ns = refl

module _ (entries : List EntryTexts) (keys : List Text) (ord : IsOrdinary entries) (last : ParentsAreLast entries) (plain : AreOrdinaryKeys entries keys) where
  abbrev pub cited : List Text
  cited = cited_keys keys

  abbrev pub size : ℕ
  size = length entries

  abbrev pub xs : List Text
  xs = texts_after entries cited size

  abbrev pub later : List Text
  later = later_texts entries cited size

  abbrev pub f : Text → Place
  f = place_after entries cited size

  abbrev pub places : List Place
  places = map f xs

  abbrev pub numbers : List ℕ
  numbers = cited_by_key entries keys

  -- ---- the cited keys

  cited_once : cited ≡ each_once keys
  cited_once = cited_are keys plain.no_star

  pub cited_differ : Differ cited
  cited_differ = subst Differ (sym cited_once) (each_differ keys)

  pub cited_contained : AllByRecursion (Contains keys) cited
  cited_contained = subst (AllByRecursion (Contains keys)) (sym cited_once) (all_once (Contains keys) keys (recursion_from_All (Contains keys) keys (All-contains_itself keys)))

  has_bytes : (x : Text) → Contains keys x → x ≢ []
  has_bytes x has is = plain.no_empty_key (subst (Contains keys) is has)

  pub numbers_are : filter_map (entry_named entries) cited ≡ numbers
  numbers_are = ap (filter_map (entry_named entries)) cited_once ∙ found_once entries keys

  -- ---- the places

  fresh_are : (ys : List Text) → AllByRecursion (λ y. list_any (same y) cited ≡ true) ys → map cited_place ys ≡ map (fresh_place cited) ys
  fresh_are [] all = refl
  fresh_are (y ∷ ys) all = ap₂ ◌∷◌ (ap (λ (b : Bool). let p : Place = record { spelled = y; entry = None; count = 0; is_cited = b } in p) (sym all.0)) (fresh_are ys all.1)

  pub places_are : places_of entries keys ≡ places
  places_are =
      cond-false (are_all_cited keys) (read_all cited 0 (map cited_place (keys_before_star keys)) entries) (read_entries 0 (map cited_place cited) entries) plain.no_star
      ∙ ap (λ (ps : List Place). read_entries 0 ps entries) (fresh_are cited (all_itself cited))
      ∙ all_read entries cited ord last cited_differ 0 entries (λ j entry at. ap (slice_get entries) (zero-add j) ∙ at)
      ∙ ap (λ (k : ℕ). map (place_after entries cited k) (texts_after entries cited k)) (zero-add size)

  -- ---- the entry of a place

  pub found_entry : (x : Text) (m : ℕ) → (f x).entry ≡ Some m → (entry : EntryTexts) × (slice_get entries m ≡ Some entry) × (same entry.key x ≡ true)
  found_entry x m held = key_of entries m x (entry_from entries cited size x m held).1

  pub held_by_key : (x : Text) (m : ℕ) (entry : EntryTexts) → slice_get entries m ≡ Some entry → same entry.key x ≡ true → (f x).entry ≡ Some m
  held_by_key x m entry at is =
      entry_there entries cited ord last size m x (ap (λ (o : Option EntryTexts). is_key_of o x) at ∙ is) (number_low entries m entry at)

  -- the text finds the entry by its key
  named_key : (x : Text) (m : ℕ) → entry_named entries x ≡ Some m → (entry : EntryTexts) × (slice_get entries m ≡ Some entry) × (same entry.key x ≡ true)
  named_key x m is =
      let first = first_is x (keys_of entries) m is in
      let one = entry_with entries m first.key first.stands in
      (one.0, one.1, ap (λ (k : Text). same k x) one.2 ∙ (and_parts (not (is_empty first.key)) (same first.key x) first.named).1)

  -- the place of a text that is not empty, or no key, is held by the entry that the text names
  pub found_is : (x : Text) → ((m : ℕ) (entry : EntryTexts) → slice_get entries m ≡ Some entry → x ≡ [] → entry.key ≢ []) → (f x).entry ≡ entry_named entries x
  found_is x apart = by_place (f x).entry refl
    where
      by_name : (o : Option ℕ) → entry_named entries x ≡ o → (f x).entry ≡ None → None ≡ o
      by_name None is held = refl
      by_name (Some m) is held = let one = named_key x m is in absurd (none-some m (sym held ∙ held_by_key x m one.0 one.1 one.2))

      by_place : (o : Option ℕ) → (f x).entry ≡ o → o ≡ entry_named entries x
      by_place None held = by_name (entry_named entries x) refl held
      by_place (Some m) held = let one = found_entry x m held in sym (only_named entries ord.keys_differ x m one.0 one.1 (same_comm x one.0.key ∙ one.2) (apart m one.0 one.1))

  pub cited_found : (x : Text) → Contains keys x → (f x).entry ≡ entry_named entries x
  cited_found x has = found_is x (λ m entry at nothing. absurd (has_bytes x has nothing))

  -- a text of the places: a cited key as it is cited, or a text that is not cited
  abbrev pub IsKnown : Text → Type 0
  IsKnown x = (Contains keys x × (list_any (same x) cited ≡ true)) ⊎ (list_any (same x) cited ≡ false)

  pub later_other : AllByRecursion (λ x. list_any (same x) cited ≡ false) later × Differ later
  later_other = differ_parts cited later (subst Differ (texts_are entries cited size) (texts_differ entries cited cited_differ size))

  pub cited_known : AllByRecursion IsKnown cited
  cited_known = all_both (Contains keys) (λ x. list_any (same x) cited ≡ true) IsKnown (λ x has is. inl (has, is)) cited cited_contained (all_itself cited)

  pub known : AllByRecursion IsKnown xs
  known = subst (AllByRecursion IsKnown) (sym (texts_are entries cited size))
      (all_joined IsKnown cited later cited_known (all_weaker (λ x. list_any (same x) cited ≡ false) IsKnown (λ x other. inr other) later later_other.0))

  -- a place is spelled as its entry
  pub own_spelling : (x : Text) (m : ℕ) (entry : EntryTexts) → IsKnown x → (f x).entry ≡ Some m → slice_get entries m ≡ Some entry → (f x).spelled ≡ entry.key
  own_spelling x m entry is_known held at = ⊎_elim
      (λ one. spelled_is entries cited size x one.1 ∙ same_Some x entry.key (sym (plain.spelled x m one.0 (sym (cited_found x one.0) ∙ held)) ∙ key_get entries m entry at))
      (λ other. spelled_as_entry entries cited size x m entry other held at)
      is_known

  -- ---- which entries are cited

  pub cited_member : (m : ℕ) (entry : EntryTexts) → slice_get entries m ≡ Some entry → is_in m numbers ≡ list_any (same entry.key) cited
  cited_member m entry at = ap (is_in m) (sym numbers_are) ∙ by_texts cited cited_contained
    where
      one_text : (x : Text) → Contains keys x → option_map_or (λ k. k == m) (entry_named entries x) false ≡ same entry.key x
      one_text x has = both_true (option_map_or (λ k. k == m) (entry_named entries x) false) (same entry.key x) (there (entry_named entries x) refl) back
        where
          there : (o : Option ℕ) → entry_named entries x ≡ o → option_map_or (λ k. k == m) o false ≡ true → same entry.key x ≡ true
          there None is found = absurd (true≢false (sym found))
          there (Some k) is found =
              let one = named_key x m (is ∙ ap (λ (j : ℕ). Some j) (eqb-true k m found)) in
              ap (λ (e : EntryTexts). same e.key x) (same_Some entry one.0 (sym at ∙ one.1)) ∙ one.2

          back : same entry.key x ≡ true → option_map_or (λ k. k == m) (entry_named entries x) false ≡ true
          back is =
              ap (λ (o : Option ℕ). option_map_or (λ k. k == m) o false) (only_named entries ord.keys_differ x m entry at (same_comm x entry.key ∙ is) (λ nothing. absurd (has_bytes x has nothing)))
              ∙ is_itself m

      by_texts : (ys : List Text) → AllByRecursion (Contains keys) ys → is_in m (filter_map (entry_named entries) ys) ≡ list_any (same entry.key) ys
      by_texts [] all = refl
      by_texts (y ∷ ys) all =
          is_in_cons m (entry_named entries y) (filter_map (entry_named entries) ys)
          ∙ ap₂ (λ (b c : Bool). b || c) (one_text y all.0) (by_texts ys all.1)

  numbers_low : AllByRecursion (λ m. m < size) numbers
  numbers_low = subst (AllByRecursion (λ m. m < size)) numbers_are (by_texts cited)
    where
      by_texts : (ys : List Text) → AllByRecursion (λ m. m < size) (filter_map (entry_named entries) ys)
      by_texts [] = tt
      by_texts (y ∷ ys) = split (entry_named entries y) refl (by_texts ys)
        where
          split : (o : Option ℕ) → entry_named entries y ≡ o → AllByRecursion (λ m. m < size) (filter_map (entry_named entries) ys) → AllByRecursion (λ m. m < size) (cons_option o (filter_map (entry_named entries) ys))
          split None is rest = rest
          split (Some m) is rest = (named_within entries y m is, rest)

  pub numbers_once : NoneTwice numbers
  numbers_once = once_is (filter_map (entry_named entries) keys)

  -- ---- how many entries name a place

  target_from : (i m : ℕ) (o : Option ℕ) → option_and_then (other_than i) o ≡ Some m → o ≡ Some m
  target_from i m None is = absurd (none-some m is)
  target_from i m (Some k) is = split (k == i) is
    where
      split : (b : Bool) → cond b None (Some k) ≡ Some m → Some k ≡ Some m
      split true is = absurd (none-some m is)
      split false is = is

  -- the parent of an entry is the entry whose key its crossref is
  pub parent_text : (i m : ℕ) (entry other : EntryTexts) → slice_get entries i ≡ Some entry → slice_get entries m ≡ Some other → parent entries i ≡ Some m
      → (t : Text) × (crossref_text entry ≡ Some t) × (same other.key t ≡ true)
  parent_text i m entry other at there is =
      option_and_then_some (entry_named entries) (crossref_text entry) m (sym (ap (option_and_then (target_of entries)) at) ∙ target_from i m (target entries i) is) (λ t says named.
      let one = named_key t m named in
      (t, says, ap (λ (e : EntryTexts). same e.key t) (same_Some other one.0 (sym there ∙ one.1)) ∙ one.2))

  parent_is_text : (i m : ℕ) (entry other : EntryTexts) (y : Text) → slice_get entries i ≡ Some entry → slice_get entries m ≡ Some other → same other.key y ≡ true
      → is_parent_of entries m i ≡ is_text (crossref_text entry) y
  parent_is_text i m entry other y at there is = both_true (is_parent_of entries m i) (is_text (crossref_text entry) y) (forth (parent entries i) refl) back
    where
      forth : (o : Option ℕ) → parent entries i ≡ o → option_map_or (λ p. p == m) o false ≡ true → is_text (crossref_text entry) y ≡ true
      forth None known_ found = absurd (true≢false (sym found))
      forth (Some p) known_ found =
          let one = parent_text i m entry other at there (known_ ∙ ap (λ (j : ℕ). Some j) (eqb-true p m found)) in
          ap (λ (o : Option Text). is_text o y) one.1 ∙ true-same one.0 y (sym (same-true other.key one.0 one.2) ∙ same-true other.key y is)

      back : is_text (crossref_text entry) y ≡ true → is_parent_of entries m i ≡ true
      back says =
          let one = text_of (crossref_text entry) y says in
          ap (λ (o : Option ℕ). option_map_or (λ p. p == m) o false)
          (names_parent entries cited ord last i m entry other one.0 at one.1 there (true-same one.0 other.key (same-true one.0 y one.2 ∙ sym (same-true other.key y is))))
          ∙ is_itself m

  pub count_member : (y : Text) (m : ℕ) (other : EntryTexts) → slice_get entries m ≡ Some other → same other.key y ≡ true
      → count_below size (λ i. is_text (cited_text entries cited i) y) ≡ count_by (is_parent_of entries m) numbers
  count_member y m other there is = sym (count_once size (is_parent_of entries m) numbers numbers_once numbers_low ∙ count_alike size (λ i. is_in i numbers && is_parent_of entries m i) (λ i. is_text (cited_text entries cited i) y) alike)
    where
      split : (i : ℕ) (entry : EntryTexts) → slice_get entries i ≡ Some entry → (b : Bool) → (b && is_parent_of entries m i) ≡ is_text (cond b (crossref_text entry) None) y
      split i entry at true = parent_is_text i m entry other y at there is
      split i entry at false = refl

      alike : (i : ℕ) → i < size → (is_in i numbers && is_parent_of entries m i) ≡ is_text (cited_text entries cited i) y
      alike i less =
          let one = in_range entries i less in
          ap (λ (b : Bool). b && is_parent_of entries m i) (cited_member i one.0 one.1)
          ∙ split i one.0 one.1 (list_any (same one.0.key) cited)
          ∙ ap (λ (o : Option EntryTexts). is_text (option_and_then (counted_text cited) o) y) (sym one.1)
