-- Which earlier entry has a key.
use Rattle.bib_store.proofs.Words.{◌≡◌, ◌≤◌, ℕ, zero, suc, Bool, true, false, cond, ◌||◌, nat_lt, List, [], ◌∷◌, Option, Some, None, option_map, take, count_by, ⊎_elim, refl, sym, ◌∙◌, ap, arith, list_any, option_map_or, cases_Bool, lt-ltb, le-ltb, both_ways, take-map, none-some, same_Some, Text}
use Rattle.bib_store.proofs.Words.{folded, EntryTexts, keys_of, true-eq}
use Rattle.std.proofs.Common.{slice_get}
use Rattle.std.proofs.lemmas.Bool.{cases_lt}
use Rattle.bib_spec.specs.Records.{is_named, first_named, is_repeated}
use Rattle.bib_spec.proofs.Counts.{count-yes, count-no}
use Rattle.bib_entries.specs.EntryTable.{AreApart}
use Rattle.bib_entries.proofs.Tables.{map-at}

-- one of the first n keys is named if the first key that is named is one of them
pub named_before : (text : Text) (keys : List Text) (n : ℕ) → list_any (is_named text) (take n keys) ≡ option_map_or (λ m. nat_lt m n) (first_named text keys) false
named_before text keys zero = along (first_named text keys)
  where
    along : (o : Option ℕ) → false ≡ option_map_or (λ m. nat_lt m zero) o false
    along None = refl
    along (Some m) = sym (le-ltb m zero (omega arith))
named_before text [] (suc n) = refl
named_before text (k ∷ ks) (suc n) = ap (λ b. is_named text k || b) (named_before text ks n) ∙ along (is_named text k) (first_named text ks)
  where
    next : (m : ℕ) → nat_lt m n ≡ nat_lt (suc m) (suc n)
    next m = ⊎_elim (λ lt. lt-ltb m n lt ∙ sym (lt-ltb (suc m) (suc n) (omega (arith, lt)))) (λ le. le-ltb m n le ∙ sym (le-ltb (suc m) (suc n) (omega (arith, le)))) (cases_lt m n)

    along : (c : Bool) (o : Option ℕ) → (c || option_map_or (λ m. nat_lt m n) o false) ≡ option_map_or (λ m. nat_lt m (suc n)) (cond c (Some 0) (option_map suc o)) false
    along true o = sym (lt-ltb 0 (suc n) (omega arith))
    along false None = refl
    along false (Some m) = next m

-- the key of an entry is that of an earlier one if the first entry with the key is an earlier one
pub repeated-first : (entries : List EntryTexts) (n : ℕ) (entry : EntryTexts) → slice_get entries n ≡ Some entry →
    is_repeated entries n ≡ option_map_or (λ m. nat_lt m n) (first_named entry.key (keys_of entries)) false
repeated-first entries n entry at =
    ap (λ o. option_map_or (λ (entry : EntryTexts). list_any (is_named entry.key) (keys_of (take n entries))) o false) at
    ∙ ap (list_any (is_named entry.key)) (sym (take-map (λ (entry : EntryTexts). entry.key) n entries)) ∙ named_before entry.key (keys_of entries) n

-- ---- keys that are all different

-- a key that names another names itself
named_itself : (key other : Text) → is_named key other ≡ true → is_named key key ≡ true
named_itself [] [] named = named
named_itself [] (b ∷ bs) named = absurd (both_ways false refl named)
named_itself (c ∷ cs) other named = true-eq (folded (c ∷ cs)) (folded (c ∷ cs)) refl

-- one that names one of many names itself
named_in_itself : (key : Text) (keys : List Text) → list_any (is_named key) keys ≡ true → is_named key key ≡ true
named_in_itself key [] some = absurd (both_ways false refl some)
named_in_itself key (other ∷ keys) some = ⊎_elim
    (named_itself key other)
    (λ none. named_in_itself key keys (sym (ap (λ b. b || list_any (is_named key) keys) none) ∙ some))
    (cases_Bool (is_named key other))

-- what passes is counted
counted_once : (test : Text → Bool) (keys : List Text) (n : ℕ) (key : Text) → slice_get keys n ≡ Some key → test key ≡ true → 1 ≤ count_by test keys
counted_once test [] n key at passes = absurd (none-some key at)
counted_once test (k ∷ keys) zero key at passes = omega (arith, count-yes test k keys (ap test (same_Some k key at) ∙ passes))
counted_once test (k ∷ keys) (suc n) key at passes = ⊎_elim
    (λ yes. omega (arith, count-yes test k keys yes))
    (λ none. omega (arith, count-no test k keys none, counted_once test keys n key at passes))
    (cases_Bool (test k))

-- and counted twice, if one before it passes too
counted_twice : (test : Text → Bool) (keys : List Text) (n : ℕ) (key : Text) → slice_get keys n ≡ Some key → test key ≡ true → list_any test (take n keys) ≡ true → 2 ≤ count_by test keys
counted_twice test [] n key at passes some = absurd (none-some key at)
counted_twice test (k ∷ keys) zero key at passes some = absurd (both_ways false refl some)
counted_twice test (k ∷ keys) (suc n) key at passes some = ⊎_elim
    (λ yes. omega (arith, count-yes test k keys yes, counted_once test keys n key at passes))
    (λ none. omega (arith, count-no test k keys none, counted_twice test keys n key at passes (sym (ap (λ b. b || list_any test (take n keys)) none) ∙ some)))
    (cases_Bool (test k))

-- if no two keys are the same, the key of an entry is not that of an earlier one
pub apart-unrepeated : (entries : List EntryTexts) (n : ℕ) (entry : EntryTexts) → slice_get entries n ≡ Some entry → AreApart (keys_of entries) → is_repeated entries n ≡ false
apart-unrepeated entries n entry at apart = ⊎_elim
    (λ some.
    let earlier : list_any (is_named entry.key) (take n (keys_of entries)) ≡ true =
    ap (list_any (is_named entry.key)) (take-map (λ (entry : EntryTexts). entry.key) n entries)
    ∙ sym (ap (λ o. option_map_or (λ (entry : EntryTexts). list_any (is_named entry.key) (keys_of (take n entries))) o false) at) ∙ some in
    let itself = map-at (λ (entry : EntryTexts). entry.key) entries n entry at in
    absurd (omega (arith, apart entry.key, counted_twice (is_named entry.key) (keys_of entries) n entry.key itself (named_in_itself entry.key (take n (keys_of entries)) earlier) earlier)))
    (λ none. none)
    (cases_Bool (is_repeated entries n))
