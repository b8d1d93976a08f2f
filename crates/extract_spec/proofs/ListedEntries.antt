-- The cited list of the keys, and the entries that are kept for it.
use Rattle.std.proofs.Common.{◌≡◌, ℕ, zero, suc, ◌+◌, ◌<◌, ◌≤◌, ◌==◌, ◌||◌, ◌&&◌, Bool, true, false, not, nat_le, List, [], ◌∷◌, ◌++◌, Option, Some, None, filter, filter_map, length, count_by, All, ⊎_elim, refl, sym, ◌∙◌, ap, subst, arith, eq-eqb}
use Rattle.std.specs.List.{list_any, AllByRecursion, cons_option, range_with_len}
use Rattle.std.proofs.lemmas.Bool.{cases_Bool, cond-true, cond-false, eqb-true, leb-true, and_parts, false≢true}
use Rattle.std.proofs.lemmas.List.Elements.{All-nil, All-cons, All-head, All-tail, All-append, All-filter}
use Rattle.bib_spec.specs.Text.{Text}
use Rattle.bib_spec.specs.Records.{EntryTexts, entry_named, is_parent_of, numbers_of, once, cites_all, cited_by_key, with_parents, listed}
use Rattle.bib_spec.proofs.Parents.{named_within}
use Rattle.extract_spec.specs.Extract.{found, is_kept_entry}
use Rattle.extract_spec.specs.Laws.{listed_are_kept}
use Rattle.extract_spec.proofs.ExtractMeans.{parent_kept}
use Rattle.extract_spec.proofs.Chains.{kept_closed}
use Rattle.extract_spec.proofs.CitedLists.{counted_kept, found_is_kept}
use Rattle.extract_spec.proofs.LeastEntries.{kept-entries_are_least}

-- the number is in the list
abbrev pub has : ℕ → List ℕ → Bool
has t ns = list_any (λ v. v == t) ns

or_true : (b : Bool) → (b || true) ≡ true
or_true true = refl
or_true false = refl

has_first : (t : ℕ) (ns : List ℕ) → has t (t ∷ ns) ≡ true
has_first t ns = ap (λ b. b || has t ns) (eq-eqb t t refl)

has_later : (t n : ℕ) (ns : List ℕ) → has t ns ≡ true → has t (n ∷ ns) ≡ true
has_later t n ns h = ap (λ b. (n == t) || b) h ∙ or_true (n == t)

-- ---- all numbers of a list

pub each_in : (P : ℕ → Type 0) (ns : List ℕ) → ((t : ℕ) → has t ns ≡ true → P t) → AllByRecursion P ns
each_in P [] holds = tt
each_in P (n ∷ ns) holds = (holds n (has_first n ns), each_in P ns (λ t h. holds t (has_later t n ns h)))

pub at_each : (P : ℕ → Type 0) (ns : List ℕ) → AllByRecursion P ns → (t : ℕ) → has t ns ≡ true → P t
at_each P [] all t h = absurd (false≢true h)
at_each P (n ∷ ns) all t h = ⊎_elim
    (λ e. subst P (eqb-true n t e) all.0)
    (λ e. at_each P ns all.1 t (sym (ap (λ b. b || has t ns) e) ∙ h))
    (cases_Bool (n == t))

each_of_both : (P : ℕ → Type 0) (ns ms : List ℕ) → AllByRecursion P ns → AllByRecursion P ms → AllByRecursion P (ns ++ ms)
each_of_both P [] ms all more = more
each_of_both P (n ∷ ns) ms all more = (all.0, each_of_both P ns ms all.1 more)

each_that_passes : (P : ℕ → Type 0) (test : ℕ → Bool) (ns : List ℕ) → ((n : ℕ) → test n ≡ true → P n) → AllByRecursion P (filter test ns)
each_that_passes P test [] holds = tt
each_that_passes P test (n ∷ ns) holds = ⊎_elim
    (λ e. subst (AllByRecursion P) (sym (cond-true (test n) (n ∷ filter test ns) (filter test ns) e)) (holds n e, each_that_passes P test ns holds))
    (λ e. subst (AllByRecursion P) (sym (cond-false (test n) (n ∷ filter test ns) (filter test ns) e)) (each_that_passes P test ns holds))
    (cases_Bool (test n))

-- ---- what is listed is kept

module _ (entries : List EntryTexts) where
  abbrev Kept : List ℕ → ℕ → Type 0
  Kept list m = is_kept_entry entries list m ≡ true

  -- each number of the list is kept for the list
  own_kept : (list : List ℕ) → AllByRecursion (Kept list) list
  own_kept list = each_in (Kept list) list (found_is_kept entries list)

  narrower : (P : ℕ → Type 0) (ns : List ℕ) → AllByRecursion P ns → AllByRecursion P (once ns)
  narrower P [] all = tt
  narrower P (n ∷ ns) all = (all.0, filtered (once ns) (narrower P ns all.1))
    where
      filtered : (ms : List ℕ) → AllByRecursion P ms → AllByRecursion P (filter (λ m. not (m == n)) ms)
      filtered [] each = tt
      filtered (m ∷ ms) each = ⊎_elim
          (λ e. subst (AllByRecursion P) (sym (cond-true (not (m == n)) (m ∷ filter (λ m. not (m == n)) ms) (filter (λ m. not (m == n)) ms) e)) (each.0, filtered ms each.1))
          (λ e. subst (AllByRecursion P) (sym (cond-false (not (m == n)) (m ∷ filter (λ m. not (m == n)) ms) (filter (λ m. not (m == n)) ms) e)) (filtered ms each.1))
          (cases_Bool (not (m == n)))

  parents_kept : (list : List ℕ) (min : ℕ) (ns : List ℕ) → 1 ≤ min → AllByRecursion (Kept list) ns → AllByRecursion (Kept list) (with_parents entries min ns)
  parents_kept list min ns least all =
      let test = λ (m : ℕ). not (has m ns) && nat_le min (count_by (is_parent_of entries m) ns) in
      each_of_both (Kept list) ns (filter test (numbers_of entries)) all
      (each_that_passes (Kept list) test (numbers_of entries) (λ m e. counted_kept (is_kept_entry entries list) entries (kept_closed entries list) m ns all (enough m e)))
    where
      enough : (m : ℕ) → (not (has m ns) && nat_le min (count_by (is_parent_of entries m) ns)) ≡ true → 1 ≤ count_by (is_parent_of entries m) ns
      enough m e =
          let le = leb-true min (count_by (is_parent_of entries m) ns) (and_parts (not (has m ns)) (nat_le min (count_by (is_parent_of entries m) ns)) e).1 in
          omega (arith, least, le)

  module _ (keys : List Text) where
    by_keys : List ℕ
    by_keys = filter_map (entry_named entries) keys

    pub listed_kept : (min : ℕ) → 1 ≤ min → AllByRecursion (Kept (found entries keys)) (listed entries keys min)
    listed_kept min least = ⊎_elim
        (λ all. subst (AllByRecursion (Kept (found entries keys))) (cond-true (cites_all keys) (numbers_of entries) (filter_map (entry_named entries) keys) all ∙ sym (cond-true (cites_all keys) (numbers_of entries) (with_parents entries min (cited_by_key entries keys)) all)) (own_kept (found entries keys)))
        (λ some. subst (AllByRecursion (Kept (found entries keys))) (sym (cond-false (cites_all keys) (numbers_of entries) (with_parents entries min (cited_by_key entries keys)) some))
        (parents_kept (found entries keys) min (cited_by_key entries keys) least (narrower (Kept (found entries keys)) (filter_map (entry_named entries) keys)
        (subst (AllByRecursion (Kept (found entries keys))) (cond-false (cites_all keys) (numbers_of entries) (filter_map (entry_named entries) keys) some) (own_kept (found entries keys))))))
        (cases_Bool (cites_all keys))

    -- what the keys find is listed
    pub found_listed : (min t : ℕ) → has t (found entries keys) ≡ true → has t (listed entries keys min) ≡ true
    found_listed min t h = ⊎_elim
        (λ all. ap (has t) (cond-true (cites_all keys) (numbers_of entries) (with_parents entries min (cited_by_key entries keys)) all ∙ sym (cond-true (cites_all keys) (numbers_of entries) (filter_map (entry_named entries) keys) all)) ∙ h)
        (λ some. ap (has t) (cond-false (cites_all keys) (numbers_of entries) (with_parents entries min (cited_by_key entries keys)) some)
        ∙ in_front (cited_by_key entries keys) _ (in_once (filter_map (entry_named entries) keys) (sym (ap (has t) (cond-false (cites_all keys) (numbers_of entries) (filter_map (entry_named entries) keys) some)) ∙ h)))
        (cases_Bool (cites_all keys))
      where
        in_front : (ns ms : List ℕ) → has t ns ≡ true → has t (ns ++ ms) ≡ true
        in_front [] ms e = absurd (false≢true e)
        in_front (n ∷ ns) ms e = ⊎_elim
            (λ is. ap (λ b. b || has t (ns ++ ms)) is)
            (λ other. ap (λ b. (n == t) || b) (in_front ns ms (sym (ap (λ b. b || has t ns) other) ∙ e)) ∙ or_true (n == t))
            (cases_Bool (n == t))

        -- the number is not the one that is taken out
        in_others : (n : ℕ) (ns : List ℕ) → (n == t) ≡ false → has t ns ≡ true → has t (filter (λ m. not (m == n)) ns) ≡ true
        in_others n [] other e = absurd (false≢true e)
        in_others n (m ∷ ms) other e = ⊎_elim
            (λ out. ap (has t) (cond-false (not (m == n)) (m ∷ filter (λ m. not (m == n)) ms) (filter (λ m. not (m == n)) ms) (ap not out))
            ∙ in_others n ms other (sym (ap (λ b. b || has t ms) (ap (λ k. k == t) (eqb-true m n out) ∙ other)) ∙ e))
            (λ stays. ap (has t) (cond-true (not (m == n)) (m ∷ filter (λ m. not (m == n)) ms) (filter (λ m. not (m == n)) ms) (ap not stays)) ∙ ⊎_elim
            (λ is. ap (λ b. b || has t (filter (λ m. not (m == n)) ms)) is)
            (λ differs. ap (λ b. (m == t) || b) (in_others n ms other (sym (ap (λ b. b || has t ms) differs) ∙ e)) ∙ or_true (m == t))
            (cases_Bool (m == t)))
            (cases_Bool (m == n))

        in_once : (ns : List ℕ) → has t ns ≡ true → has t (once ns) ≡ true
        in_once [] e = absurd (false≢true e)
        in_once (n ∷ ns) e = ⊎_elim
            (λ is. ap (λ b. b || has t (filter (λ m. not (m == n)) (once ns))) is)
            (λ other. ap (λ b. (n == t) || b) (in_others n (once ns) other (in_once ns (sym (ap (λ b. b || has t ns) other) ∙ e))) ∙ or_true (n == t))
            (cases_Bool (n == t))

    same_truth : (a b : Bool) → (a ≡ true → b ≡ true) → (b ≡ true → a ≡ true) → a ≡ b
    same_truth true true to from = refl
    same_truth true false to from = sym (to refl)
    same_truth false true to from = from refl
    same_truth false false to from = refl

    -- the same entries are kept for the cited list as for what the keys find
    pub kept_alike : (min n : ℕ) → 1 ≤ min → is_kept_entry entries (listed entries keys min) n ≡ is_kept_entry entries (found entries keys) n
    kept_alike min n least = same_truth (is_kept_entry entries (listed entries keys min) n) (is_kept_entry entries (found entries keys) n)
        (kept-entries_are_least entries (listed entries keys min) (is_kept_entry entries (found entries keys))
        (at_each (Kept (found entries keys)) (listed entries keys min) (listed_kept min least))
        (λ m p h e. parent_kept (is_kept_entry entries (found entries keys)) entries (kept_closed entries (found entries keys)) m p h e) n)
        (kept-entries_are_least entries (found entries keys) (is_kept_entry entries (listed entries keys min))
        (λ t h. found_is_kept entries (listed entries keys min) t (found_listed min t h))
        (λ m p h e. parent_kept (is_kept_entry entries (listed entries keys min)) entries (kept_closed entries (listed entries keys min)) m p h e) n)

-- ---- the numbers of a cited list

abbrev Within : ℕ → List ℕ → Type 0
Within count = All (λ n. n < count)

range_within : (count a n : ℕ) → a + n < suc count → Within count (range_with_len a n)
range_within count a zero le = All-nil (λ m. m < count)
range_within count a (suc n) le = All-cons (λ m. m < count) a (range_with_len (a + 1) n) (omega (arith, le)) (range_within count (a + 1) n (omega (arith, le)))

pub numbers_within : (entries : List EntryTexts) → All (λ n. n < length entries) (numbers_of entries)
numbers_within entries = range_within (length entries) 0 (length entries) (omega arith)

once_within : (count : ℕ) (ns : List ℕ) → Within count ns → Within count (once ns)
once_within count [] all = all
once_within count (n ∷ ns) all =
    All-cons (λ m. m < count) n (filter (λ m. not (m == n)) (once ns)) (All-head (λ m. m < count) n ns all)
    (All-filter (λ m. not (m == n)) (λ m. m < count) (once ns) (once_within count ns (All-tail (λ m. m < count) n ns all)))

found_within : (entries : List EntryTexts) (keys : List Text) → Within (length entries) (filter_map (entry_named entries) keys)
found_within entries [] = All-nil (λ n. n < length entries)
found_within entries (key ∷ keys) = more (entry_named entries key) refl (found_within entries keys)
  where
    more : (o : Option ℕ) → entry_named entries key ≡ o → Within (length entries) (filter_map (entry_named entries) keys)
        → Within (length entries) (cons_option o (filter_map (entry_named entries) keys))
    more None e rest = rest
    more (Some n) e rest = All-cons (λ m. m < length entries) n (filter_map (entry_named entries) keys) (named_within entries key n e) rest

pub listed_within : (entries : List EntryTexts) (keys : List Text) (min : ℕ) → All (λ n. n < length entries) (listed entries keys min)
listed_within entries keys min = ⊎_elim
    (λ t. subst (Within (length entries)) (sym (cond-true (cites_all keys) (numbers_of entries) by_keys t)) (numbers_within entries))
    (λ f. subst (Within (length entries)) (sym (cond-false (cites_all keys) (numbers_of entries) by_keys f))
    (All-append (λ n. n < length entries) (cited_by_key entries keys) _
    (once_within (length entries) (filter_map (entry_named entries) keys) (found_within entries keys))
    (All-filter _ (λ n. n < length entries) (numbers_of entries) (numbers_within entries))))
    (cases_Bool (cites_all keys))
  where
    by_keys : List ℕ
    by_keys = with_parents entries min (cited_by_key entries keys)

pub listed-are_kept : listed_are_kept
listed-are_kept entries keys min least = record { kept = λ n. kept_alike entries keys min n least; within = listed_within entries keys min }
