-- The loops by which a cited list is made.
use Rattle.bib_store.proofs.Words.{◌≡◌, ℕ, zero, suc, ◌+◌, ◌<◌, ◌≤◌, Bool, true, false, cond, not, ◌&&◌, ◌||◌, nat_le, List, [], ◌∷◌, ◌++◌, length, take, drop, get_or, set, Option, Some, None, refl, sym, ◌∙◌, ap, arith, map, filter, count_by, append_assoc, ⊎_elim, range_with_len, enumerate_from}
use Rattle.bib_store.proofs.Words.{AllByRecursion, option_map_or, eqb-true, drop_all, take_more, length-set, filter-append, All-head, All-tail, list_any-append, Text, EntryTexts, entry_named, with_parents, parent, AreMarks, AreCounts, is_added}
use Rattle.std.proofs.Common.{◌==◌, is_none, All, filter_map, replicate, ne_eqb}
use Rattle.std.proofs.Math.Bool.{or-true, or-false}
use Rattle.std.specs.List.{cons_option}
use Rattle.std.proofs.lemmas.Bool.{eq-eqb, cases_eq}
use Rattle.std.proofs.lemmas.List.{append-nil, drop_more, take_all, length-take-le, get_or-replicate, length-replicate, get_or-set_same, get_or-set_other}
use Rattle.std.proofs.lemmas.List.Elements.{filter_map-append, All-cons, All-filter, All-from_recursion}
use Rattle.std.proofs.lemmas.List.Sums.{count_by_more_yes, count_by_more_no, count_by-le-length}
use Rattle.std.proofs.lemmas.List.FromFn.{map-range_with_len_more}
use Rattle.bib_spec.specs.Records.{once, is_parent_of}
use Rattle.bib_spec.proofs.Names.{both_true}
use Rattle.bib_store.specs.Citing.{is_among, with_added}
use Rattle.bib_store.proofs.Filters.{filter_twice}
use Rattle.bib_spec.proofs.Parents.{named_within}

-- ---- tables

-- a table that is written whole
pub refilled : {X : Type 0} (len : ℕ) (new old : List X) → length new ≡ len → length old ≡ len → take len (new ++ drop (length new) old) ≡ new
refilled len new old n o =
    ap (take len) (ap (λ l. new ++ l) (drop_all (length new) old (omega (arith, n, o))) ∙ append-nil new)
    ∙ take_all len new (omega (arith, n))

-- ---- ranges

map_same : (xs : List ℕ) → map (λ x. x) xs ≡ xs
map_same [] = refl
map_same (x ∷ xs) = ap (λ l. x ∷ l) (map_same xs)

pub range_more : (n : ℕ) → range_with_len 0 (n + 1) ≡ range_with_len 0 n ++ n ∷ []
range_more n = sym (map_same (range_with_len 0 (n + 1))) ∙ map-range_with_len_more (λ x. x) 0 n n (omega arith) ∙ ap (λ l. l ++ n ∷ []) (map_same (range_with_len 0 n))

pub filter_range_more : (p : ℕ → Bool) (n : ℕ) → filter p (range_with_len 0 (n + 1)) ≡ filter p (range_with_len 0 n) ++ cond (p n) (n ∷ []) []
filter_range_more p n = ap (filter p) (range_more n) ∙ filter-append p (range_with_len 0 n) (n ∷ [])

-- ---- each number once

eqb_comm : (a b : ℕ) → (a == b) ≡ (b == a)
eqb_comm a b = both_true (a == b) (b == a) (λ h. eq-eqb b a (sym (eqb-true a b h))) (λ h. eq-eqb a b (sym (eqb-true b a h)))

abbrev left_out : List ℕ → ℕ → Bool
left_out listed n = not (is_among listed n)

abbrev other_than : ℕ → ℕ → Bool
other_than n m = not (m == n)

among_after : (listed : List ℕ) (x n : ℕ) → is_among (listed ++ x ∷ []) n ≡ (is_among listed n || ((x == n) || false))
among_after listed x n = list_any-append (λ m. m == n) listed (x ∷ [])

left_out_other : (listed : List ℕ) (x n : ℕ) → is_among listed x ≡ true → left_out listed n ≡ (other_than x n && left_out listed n)
left_out_other listed x n h = at (n == x) refl
  where
    at : (b : Bool) → (n == x) ≡ b → left_out listed n ≡ (not b && left_out listed n)
    at true e = ap not (ap (is_among listed) (eqb-true n x e) ∙ h)
    at false e = refl

left_out_after : (listed : List ℕ) (x n : ℕ) → left_out (listed ++ x ∷ []) n ≡ (other_than x n && left_out listed n)
left_out_after listed x n = ap not (among_after listed x n ∙ ap (λ b. is_among listed n || (b || false)) (eqb_comm x n)) ∙ at (is_among listed n) (n == x)
  where
    at : (p b : Bool) → not (p || (b || false)) ≡ (not b && not p)
    at true true = refl
    at true false = refl
    at false true = refl
    at false false = refl

-- the numbers from i on that are not listed stand after the listed ones
pub record IsListing (numbers listed : List ℕ) (marks : List Bool) (i : ℕ) : Type 0 where
  pub so_far : listed ++ filter (left_out listed) (once (drop i numbers)) ≡ once numbers
  pub marked : AreMarks listed marks

next : (numbers : List ℕ) (i x : ℕ) → i < length numbers → x ≡ get_or numbers i x → drop i numbers ≡ x ∷ drop (i + 1) numbers
next numbers i x lt is = drop_more numbers i x lt ∙ ap (λ n. n ∷ drop (i + 1) numbers) (sym is)

-- a number that is marked is passed over
pub listing_old : (numbers listed : List ℕ) (marks : List Bool) (i x : ℕ) → IsListing numbers listed marks i → i < length numbers → x ≡ get_or numbers i x → x < length marks → get_or marks x false ≡ true
    → IsListing numbers listed marks (i + 1)
listing_old numbers listed marks i x h lt is within marked = record {
  so_far = ap (λ l. listed ++ l) (sym passed ∙ ap (λ l. filter (left_out listed) (once l)) (sym (next numbers i x lt is))) ∙ h.so_far;
  marked = h.marked;
}
  where
    there : is_among listed x ≡ true
    there = sym (h.marked x within) ∙ marked

    rest : List ℕ
    rest = once (drop (i + 1) numbers)

    passed : filter (left_out listed) (x ∷ filter (other_than x) rest) ≡ filter (left_out listed) rest
    passed =
        ap (λ b. cond (not b) (x ∷ filter (left_out listed) (filter (other_than x) rest)) (filter (left_out listed) (filter (other_than x) rest))) there
        ∙ filter_twice (left_out listed) (other_than x) (left_out listed) (λ n. left_out_other listed x n there) rest

-- a number that is not is listed and marked
pub listing_new : (numbers listed : List ℕ) (marks : List Bool) (i x : ℕ) → IsListing numbers listed marks i → i < length numbers → x ≡ get_or numbers i x → x < length marks → get_or marks x false ≡ false
    → IsListing numbers (listed ++ x ∷ []) (set marks x true) (i + 1)
listing_new numbers listed marks i x h lt is within unmarked = record {
  so_far =
      append_assoc listed (x ∷ []) (filter (left_out (listed ++ x ∷ [])) rest)
      ∙ ap (λ l. listed ++ l) (sym passed ∙ ap (λ l. filter (left_out listed) (once l)) (sym (next numbers i x lt is)))
      ∙ h.so_far;
  marked = λ n below. at n (omega (arith, below, length-set {A = Bool})) ∙ sym (among_after listed x n);
}
  where
    absent : is_among listed x ≡ false
    absent = sym (h.marked x within) ∙ unmarked

    rest : List ℕ
    rest = once (drop (i + 1) numbers)

    passed : filter (left_out listed) (x ∷ filter (other_than x) rest) ≡ x ∷ filter (left_out (listed ++ x ∷ [])) rest
    passed =
        ap (λ b. cond (not b) (x ∷ filter (left_out listed) (filter (other_than x) rest)) (filter (left_out listed) (filter (other_than x) rest))) absent
        ∙ ap (λ l. x ∷ l) (filter_twice (left_out listed) (other_than x) (left_out (listed ++ x ∷ [])) (left_out_after listed x) rest)

    at : (n : ℕ) → n < length marks → get_or (set marks x true) n false ≡ (is_among listed n || ((x == n) || false))
    at n below = ⊎_elim
        (λ same. ap (λ k. get_or (set marks x true) k false) (sym same) ∙ get_or-set_same marks x true false within ∙ sym (or-true (is_among listed n)) ∙ ap (λ b. is_among listed n || (b || false)) (sym (eq-eqb x n same)))
        (λ differs. get_or-set_other marks x n true false (λ e. differs (sym e)) ∙ h.marked n below ∙ sym (or-false (is_among listed n)) ∙ ap (λ b. is_among listed n || (b || false)) (sym (ne_eqb x n differs)))
        (cases_eq x n)

keep_all : (xs : List ℕ) → filter (left_out []) xs ≡ xs
keep_all [] = refl
keep_all (x ∷ xs) = ap (λ l. x ∷ l) (keep_all xs)

pub listing_none : (numbers : List ℕ) (marks : List Bool) → AreMarks [] marks → IsListing numbers [] marks 0
listing_none numbers marks h = record { so_far = keep_all (once numbers); marked = h }

pub listing_all : (numbers listed : List ℕ) (marks : List Bool) (i : ℕ) → IsListing numbers listed marks i → length numbers ≤ i → listed ≡ once numbers
listing_all numbers listed marks i h le = sym (append-nil listed) ∙ ap (λ l. listed ++ filter (left_out listed) (once l)) (sym (drop_all i numbers le)) ∙ h.so_far

-- each number once are some of the numbers
pub once_within : (P : ℕ → Type 0) (numbers : List ℕ) → All P numbers → All P (once numbers)
once_within P [] h = h
once_within P (x ∷ xs) h = All-cons P x (filter (other_than x) (once xs)) (All-head P x xs h) (All-filter (other_than x) P (once xs) (once_within P xs (All-tail P x xs h)))

pub marks_none : (count : ℕ) → AreMarks [] (replicate count false)
marks_none count n lt = get_or-replicate count n false false (omega (arith, lt, length-replicate {A = Bool} count false))

-- ---- look-ups

abbrev pub places : List (ℕ × Text) → List ℕ
places keys = map (λ p. p.0) keys

abbrev pub unknown_of : List EntryTexts → List Text → List ℕ
unknown_of entries keys = map (λ p. p.0) (filter (λ p. is_none (entry_named entries p.1)) (enumerate_from 0 keys))

enumerate_after : (from : ℕ) (keys : List Text) (key : Text) → enumerate_from from (keys ++ key ∷ []) ≡ enumerate_from from keys ++ (from + length keys, key) ∷ []
enumerate_after from [] key = let e : from ≡ from + 0 = omega arith in ap (λ n. (n, key) ∷ []) e
enumerate_after from (first ∷ keys) key =
    let e : from + 1 + length keys ≡ from + suc (length keys) = omega arith in
    ap (λ l. (from, first) ∷ l) (enumerate_after (from + 1) keys key ∙ ap (λ n. enumerate_from (from + 1) keys ++ (n, key) ∷ []) e)

map_after : (xs ys : List (ℕ × Text)) → places (xs ++ ys) ≡ places xs ++ places ys
map_after [] ys = refl
map_after (x ∷ xs) ys = ap (λ l. x.0 ∷ l) (map_after xs ys)

-- the look-ups of the keys before i
pub record AreFound (entries : List EntryTexts) (keys : List Text) (numbers unknown : List ℕ) (i : ℕ) : Type 0 where
  pub numbers_are : numbers ≡ filter_map (entry_named entries) (take i keys)
  pub unknown_are : unknown ≡ unknown_of entries (take i keys)

found_after : (entries : List EntryTexts) (keys : List Text) (i : ℕ) (key : Text) → i < length keys → key ≡ get_or keys i key →
    filter_map (entry_named entries) (take (i + 1) keys) ≡ filter_map (entry_named entries) (take i keys) ++ cons_option (entry_named entries key) []
found_after entries keys i key lt is =
    ap (filter_map (entry_named entries)) (take_more keys i key lt ∙ ap (λ k. take i keys ++ k ∷ []) (sym is))
    ∙ filter_map-append (entry_named entries) (take i keys) (key ∷ [])

unknown_after : (entries : List EntryTexts) (keys : List Text) (i : ℕ) (key : Text) → i < length keys → key ≡ get_or keys i key →
    unknown_of entries (take (i + 1) keys) ≡ unknown_of entries (take i keys) ++ places (cond (is_none (entry_named entries key)) ((i, key) ∷ []) [])
unknown_after entries keys i key lt is =
    let test : ℕ × Text → Bool = λ p. is_none (entry_named entries p.1) in
    let place : 0 + length (take i keys) ≡ i = omega (arith, length-take-le i keys (omega (arith, lt))) in
    ap (unknown_of entries) (take_more keys i key lt ∙ ap (λ k. take i keys ++ k ∷ []) (sym is))
    ∙ ap (λ (l : List (ℕ × Text)). places (filter test l)) (enumerate_after 0 (take i keys) key ∙ ap (λ n. enumerate_from 0 (take i keys) ++ (n, key) ∷ []) place)
    ∙ ap places (filter-append test (enumerate_from 0 (take i keys)) ((i, key) ∷ []))
    ∙ map_after (filter test (enumerate_from 0 (take i keys))) (cond (is_none (entry_named entries key)) ((i, key) ∷ []) [])

pub found_more : (entries : List EntryTexts) (keys : List Text) (numbers unknown : List ℕ) (i : ℕ) (key : Text) (n : ℕ) → AreFound entries keys numbers unknown i → i < length keys → key ≡ get_or keys i key → entry_named entries key ≡ Some n
    → AreFound entries keys (numbers ++ n ∷ []) unknown (i + 1)
found_more entries keys numbers unknown i key n h lt is named = record {
  numbers_are = ap (λ l. l ++ n ∷ []) h.numbers_are ∙ sym (found_after entries keys i key lt is ∙ ap (λ o. filter_map (entry_named entries) (take i keys) ++ cons_option o []) named);
  unknown_are = h.unknown_are ∙ sym (unknown_after entries keys i key lt is ∙ ap (λ o. unknown_of entries (take i keys) ++ places (cond (is_none o) ((i, key) ∷ []) [])) named ∙ append-nil (unknown_of entries (take i keys)));
}

pub unknown_more : (entries : List EntryTexts) (keys : List Text) (numbers unknown : List ℕ) (i : ℕ) (key : Text) → AreFound entries keys numbers unknown i → i < length keys → key ≡ get_or keys i key → entry_named entries key ≡ None
    → AreFound entries keys numbers (unknown ++ i ∷ []) (i + 1)
unknown_more entries keys numbers unknown i key h lt is named = record {
  numbers_are = h.numbers_are ∙ sym (found_after entries keys i key lt is ∙ ap (λ o. filter_map (entry_named entries) (take i keys) ++ cons_option o []) named ∙ append-nil (filter_map (entry_named entries) (take i keys)));
  unknown_are = ap (λ l. l ++ i ∷ []) h.unknown_are ∙ sym (unknown_after entries keys i key lt is ∙ ap (λ o. unknown_of entries (take i keys) ++ places (cond (is_none o) ((i, key) ∷ []) [])) named);
}

pub found_none : (entries : List EntryTexts) (keys : List Text) → AreFound entries keys [] [] 0
found_none entries keys = record { numbers_are = refl; unknown_are = refl }

pub found_all : (entries : List EntryTexts) (keys : List Text) (numbers unknown : List ℕ) (i : ℕ) → AreFound entries keys numbers unknown i → length keys ≤ i → unknown ≡ unknown_of entries keys
found_all entries keys numbers unknown i h le = h.unknown_are ∙ ap (unknown_of entries) (take_all i keys le)

-- what look-ups find are entries
pub found_within : (entries : List EntryTexts) (keys : List Text) → All (λ n. n < length entries) (filter_map (entry_named entries) keys)
found_within entries keys = All-from_recursion (λ n. n < length entries) (filter_map (entry_named entries) keys) (each keys)
  where
    at : (o : Option ℕ) (rest : List ℕ) → ((m : ℕ) → o ≡ Some m → m < length entries) → AllByRecursion (λ n. n < length entries) rest → AllByRecursion (λ n. n < length entries) (cons_option o rest)
    at None rest h later = later
    at (Some m) rest h later = (h m refl, later)

    each : (keys : List Text) → AllByRecursion (λ n. n < length entries) (filter_map (entry_named entries) keys)
    each [] = tt
    each (key ∷ keys) = at (entry_named entries key) (filter_map (entry_named entries) keys) (named_within entries key) (each keys)

-- ---- counts of parents

pub counts_none : (entries : List EntryTexts) (count : ℕ) → AreCounts entries [] (replicate count 0)
counts_none entries count n lt = get_or-replicate count n 0 0 (omega (arith, lt, length-replicate {A = ℕ} count 0))

module _ (entries : List EntryTexts) (listed counts : List ℕ) (i n : ℕ) (h : AreCounts entries (take i listed) counts) (lt : i < length listed) (is : n ≡ get_or listed i n) where
  tested : (k : ℕ) (o : Option ℕ) → parent entries n ≡ o → is_parent_of entries k (get_or listed i n) ≡ option_map_or (λ p. p == k) o false
  tested k o e = ap (is_parent_of entries k) (sym is) ∙ ap (λ q. option_map_or (λ p. p == k) q false) e

  -- an entry without a parent
  pub counts_same : parent entries n ≡ None → AreCounts entries (take (i + 1) listed) counts
  counts_same none k below = h k below ∙ sym (count_by_more_no (is_parent_of entries k) listed i n lt (tested k None none))

  -- an entry with one
  pub counts_more : (p : ℕ) → parent entries n ≡ Some p → p < length counts → AreCounts entries (take (i + 1) listed) (set counts p (get_or counts p 0 + 1))
  counts_more p one within k below = ⊎_elim
      (λ same.
      ap (λ j. get_or (set counts p (get_or counts p 0 + 1)) j 0) (sym same)
      ∙ get_or-set_same counts p (get_or counts p 0 + 1) 0 within
      ∙ ap (λ c. c + 1) (h p within ∙ ap (λ j. count_by (is_parent_of entries j) (take i listed)) same)
      ∙ sym (count_by_more_yes (is_parent_of entries k) listed i n lt (tested k (Some p) one ∙ eq-eqb p k same)))
      (λ differs.
      get_or-set_other counts p k (get_or counts p 0 + 1) 0 (λ e. differs (sym e))
      ∙ h k (omega (arith, below, length-set {A = ℕ}))
      ∙ sym (count_by_more_no (is_parent_of entries k) listed i n lt (tested k (Some p) one ∙ ne_eqb p k differs)))
      (cases_eq p k)

pub count_small : (entries : List EntryTexts) (listed counts : List ℕ) (i p : ℕ) → AreCounts entries (take i listed) counts → i ≤ length listed → p < length counts → get_or counts p 0 ≤ i
count_small entries listed counts i p h le within =
    let is = h p within in
    let few = count_by-le-length (is_parent_of entries p) (take i listed) in
    let long = length-take-le i listed le in
    omega (arith, is, few, long)

-- ---- the parents after the list

pub added_more : (p : ℕ → Bool) (listed all : List ℕ) (n : ℕ) → all ≡ listed ++ filter p (range_with_len 0 n) → p n ≡ true → all ++ n ∷ [] ≡ listed ++ filter p (range_with_len 0 (n + 1))
added_more p listed all n h e =
    ap (λ l. l ++ n ∷ []) h
    ∙ append_assoc listed (filter p (range_with_len 0 n)) (n ∷ [])
    ∙ ap (λ l. listed ++ l) (sym (filter_range_more p n ∙ ap (λ b. filter p (range_with_len 0 n) ++ cond b (n ∷ []) []) e))

pub added_same : (p : ℕ → Bool) (listed all : List ℕ) (n : ℕ) → all ≡ listed ++ filter p (range_with_len 0 n) → p n ≡ false → all ≡ listed ++ filter p (range_with_len 0 (n + 1))
added_same p listed all n h e =
    h ∙ ap (λ l. listed ++ l) (sym (filter_range_more p n ∙ ap (λ b. filter p (range_with_len 0 n) ++ cond b (n ∷ []) []) e ∙ append-nil (filter p (range_with_len 0 n))))

filter_range_same : (p q : ℕ → Bool) (n : ℕ) → ((k : ℕ) → k < n → p k ≡ q k) → filter p (range_with_len 0 n) ≡ filter q (range_with_len 0 n)
filter_range_same p q zero h = refl
filter_range_same p q (suc n) h =
    let e : suc n ≡ n + 1 = omega arith in
    ap (λ k. filter p (range_with_len 0 k)) e
    ∙ filter_range_more p n
    ∙ ap (λ l. l ++ cond (p n) (n ∷ []) []) (filter_range_same p q n (λ k lt. h k (omega (arith, lt))))
    ∙ ap (λ b. filter q (range_with_len 0 n) ++ cond b (n ∷ []) []) (h n (omega arith))
    ∙ sym (ap (λ k. filter q (range_with_len 0 k)) e ∙ filter_range_more q n)

-- the list with those that the tables add is the list with its parents
pub with_parents_is : (entries : List EntryTexts) (min : ℕ) (listed counts : List ℕ) (marks : List Bool) → AreMarks listed marks → AreCounts entries listed counts → length marks ≡ length entries → length counts ≡ length entries
    → with_added marks counts min listed ≡ with_parents entries min listed
with_parents_is entries min listed counts marks marked counted m c =
    ap (λ l. listed ++ l)
    (ap (λ k. filter (is_added marks counts min) (range_with_len 0 k)) m
    ∙ filter_range_same (is_added marks counts min) (λ n. not (is_among listed n) && nat_le min (count_by (is_parent_of entries n) listed)) (length entries) (λ k lt.
    ap (λ b. not b && nat_le min (get_or counts k 0)) (marked k (omega (arith, lt, m)))
    ∙ ap (λ j. not (is_among listed k) && nat_le min j) (counted k (omega (arith, lt, c)))))
