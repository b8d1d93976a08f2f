-- A cited list has numbers of entries, and positions of keys.
use Rattle.bib_answers.proofs.Words.{◌==◌, ◌≡◌, ℕ, zero, suc, ◌+◌, ◌<◌, not, List, [], ◌∷◌, length, map, filter, Option, None, Some, All, refl, sym, subst, ⊎_elim, range_with_len, cons_option, cases_Bool, cond-true, cond-false, Text, EntryTexts, entry_named, named_within}
use Rattle.std.proofs.Common.{filter_map, is_none, arith}
use Rattle.std.specs.List.{enumerate_from}
use Rattle.std.proofs.lemmas.List.Elements.{All-nil, All-cons, All-head, All-tail, All-append, All-filter, All-map}
use Rattle.bib_spec.specs.Records.{numbers_of, once, cited_by_key, with_parents, cites_all, listed, unknown}

-- ---- entries

abbrev Within : ℕ → List ℕ → Type 0
Within count = All (λ n. n < count)

range_within : (count a n : ℕ) → a + n < suc count → Within count (range_with_len a n)
range_within count a zero le = All-nil (λ m. m < count)
range_within count a (suc n) le = All-cons (λ m. m < count) a (range_with_len (a + 1) n) (omega (arith, le)) (range_within count (a + 1) n (omega (arith, le)))

pub numbers_within : (entries : List EntryTexts) → Within (length entries) (numbers_of entries)
numbers_within entries = range_within (length entries) 0 (length entries) (omega arith)

once_within : (count : ℕ) (ns : List ℕ) → Within count ns → Within count (once ns)
once_within count [] all = all
once_within count (n ∷ ns) all =
    All-cons (λ m. m < count) n (filter (λ m. not (m == n)) (once ns)) (All-head (λ m. m < count) n ns all)
    (All-filter (λ m. not (m == n)) (λ m. m < count) (once ns) (once_within count ns (All-tail (λ m. m < count) n ns all)))

pub found_within : (entries : List EntryTexts) (keys : List Text) → Within (length entries) (filter_map (entry_named entries) keys)
found_within entries [] = All-nil (λ n. n < length entries)
found_within entries (key ∷ keys) = more (entry_named entries key) refl (found_within entries keys)
  where
    more : (o : Option ℕ) → entry_named entries key ≡ o → Within (length entries) (filter_map (entry_named entries) keys)
        → Within (length entries) (cons_option o (filter_map (entry_named entries) keys))
    more None e rest = rest
    more (Some n) e rest = All-cons (λ m. m < length entries) n (filter_map (entry_named entries) keys) (named_within entries key n e) rest

pub listed_within : (entries : List EntryTexts) (keys : List Text) (min : ℕ) → All (λ n. n < length entries) (listed entries keys min)
listed_within entries keys min = ⊎_elim
    (λ t. subst (Within (length entries)) (sym (cond-true (cites_all keys) (numbers_of entries) by_keys t)) (numbers_within entries))
    (λ f. subst (Within (length entries)) (sym (cond-false (cites_all keys) (numbers_of entries) by_keys f))
    (All-append (λ n. n < length entries) (cited_by_key entries keys) _
    (once_within (length entries) (filter_map (entry_named entries) keys) (found_within entries keys))
    (All-filter _ (λ n. n < length entries) (numbers_of entries) (numbers_within entries))))
    (cases_Bool (cites_all keys))
  where
    by_keys : List ℕ
    by_keys = with_parents entries min (cited_by_key entries keys)

-- ---- keys

places_within : (keys : List Text) (count n : ℕ) → n + length keys < suc count → All (λ p. p.0 < count) (enumerate_from n keys)
places_within [] count n le = All-nil (λ p. p.0 < count)
places_within (key ∷ keys) count n le =
    All-cons (λ p. p.0 < count) (n, key) (enumerate_from (n + 1) keys) (omega (arith, le)) (places_within keys count (n + 1) (omega (arith, le)))

pub unknown_within : (entries : List EntryTexts) (keys : List Text) → All (λ place. place < length keys) (unknown entries keys)
unknown_within entries keys = ⊎_elim
    (λ t. subst (Within (length keys)) (sym (cond-true (cites_all keys) [] of_keys t)) (All-nil (λ n. n < length keys)))
    (λ f. subst (Within (length keys)) (sym (cond-false (cites_all keys) [] of_keys f))
    (All-map (λ n. n < length keys) (λ p. p.0) _ (All-filter _ (λ p. p.0 < length keys) (enumerate_from 0 keys) (places_within keys (length keys) 0 (omega arith)))))
    (cases_Bool (cites_all keys))
  where
    of_keys : List ℕ
    of_keys = map (λ p. p.0) (filter (λ p. is_none (entry_named entries p.1)) (enumerate_from 0 keys))
