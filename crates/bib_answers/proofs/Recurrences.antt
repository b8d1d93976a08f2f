-- Which names an item may have twice.
use Rattle.bib_answers.proofs.Words.{◌≡◌, ◌∙◌, ◌==◌, ℕ, suc, ◌+◌, ◌<◌, ◌≤◌, Bool, true, false, cond, List, [], ◌∷◌, length, get_or, Option, None, Some, refl, sym, ap, subst, ⊎_elim, list_any, cases_Bool, Text, folded, same, hash_from, AreTold, NameFilter}
use Rattle.std.proofs.Common.{◌||◌, ◌%◌, set, zero-add, arith}
use Rattle.std.proofs.Math.Nat.{mod-lt}
use Rattle.std.proofs.lemmas.Bool.{eq-eqb, eqb-true, both_ways}
use Rattle.std.proofs.lemmas.List.{get_or-set_same, get_or-set_other, length-set}
use Rattle.bib_spec.proofs.Names.{same-true}
use Rattle.bib_answers.specs.Recurring.{bucket_of, one_more, with_one_more, is_shared, unrolled}

-- how many of the names fall into bucket m of n
abbrev pub tally : ℕ → ℕ → List Text → ℕ
tally n m [] = 0
tally n m (name ∷ names) = cond (bucket_of n name == m) 1 0 + tally n m names

-- the counts of n buckets tell whether no name, one name or more names fall into each
pub record AreCounts (counts : List ℕ) (n : ℕ) (names : List Text) : Type 0 where
  pub count : length counts ≡ n
  pub most : (m : ℕ) → m < n → get_or counts m 0 ≤ 2
  pub some : (m : ℕ) → m < n → 1 ≤ tally n m names → 1 ≤ get_or counts m 0
  pub more : (m : ℕ) → m < n → 2 ≤ tally n m names → 2 ≤ get_or counts m 0

-- all names but those of `rest` were counted
pub record AreCounting (all : List Text) (n : ℕ) (counts : List ℕ) (rest : List Text) : Type 0 where
  pub names : List Text
  pub counted : AreCounts counts n names
  pub joined : unrolled names rest ≡ all

-- ---- counting

one_or_two : (b : Bool) → (1 ≤ cond b 1 2) × (cond b 1 2 ≤ 2)
one_or_two true = ((let e : 1 ≤ 1 = omega arith in e), (let e : 1 ≤ 2 = omega arith in e))
one_or_two false = ((let e : 1 ≤ 2 = omega arith in e), (let e : 2 ≤ 2 = omega arith in e))

one_more_some : (o : ℕ) → 1 ≤ one_more o
one_more_some o = (one_or_two (o == 0)).0

one_more_most : (o : ℕ) → one_more o ≤ 2
one_more_most o = (one_or_two (o == 0)).1

one_more_more : (o : ℕ) → 1 ≤ o → 2 ≤ one_more o
one_more_more o some = go (o == 0) refl
  where
    go : (b : Bool) → (o == 0) ≡ b → 2 ≤ cond b 1 2
    go true e = absurd (let none = eqb-true o 0 e in omega (arith, some, none))
    go false e = let two : 2 ≤ 2 = omega arith in two

-- the tally of any other bucket stays
counted_other : (b : Bool) (t : ℕ) → b ≡ false → cond b 1 0 + t ≡ t
counted_other b t h = ap (λ c. cond c 1 0 + t) h ∙ zero-add t

counted_same : (b : Bool) (t : ℕ) → b ≡ true → cond b 1 0 + t ≡ 1 + t
counted_same b t h = ap (λ c. cond c 1 0 + t) h

-- one more name is counted
counts_with : (counts : List ℕ) (name : Text) (names : List Text) → AreCounts counts (length counts) names → AreCounts (with_one_more counts name) (length counts) (name ∷ names)
counts_with [] name names are = record {
  count = refl;
  most = λ m within. absurd (omega (arith, within));
  some = λ m within _. absurd (omega (arith, within));
  more = λ m within _. absurd (omega (arith, within));
}
counts_with (x ∷ xs) name names are = record {
  count = length-set (x ∷ xs) bucket count;
  most = λ m within. at m within (λ k. k ≤ 2) (λ _. one_more_most old) (λ _. are.most m within);
  some = λ m within some. at m within (λ k. 1 ≤ k) (λ _. one_more_some old) (λ f. are.some m within (subst (λ k. 1 ≤ k) (counted_other (bucket == m) (tally (length (x ∷ xs)) m names) f) some));
  more = λ m within more. at m within (λ k. 2 ≤ k)
      (λ t. let e = eqb-true bucket m t in one_more_more old (subst (λ k. 1 ≤ get_or (x ∷ xs) k 0) (sym e) (are.some m within (let two = subst (λ k. 2 ≤ k) (counted_same (bucket == m) (tally (length (x ∷ xs)) m names) t) more in omega (arith, two)))))
      (λ f. are.more m within (subst (λ k. 2 ≤ k) (counted_other (bucket == m) (tally (length (x ∷ xs)) m names) f) more));
}
  where
    bucket : ℕ
    bucket = bucket_of (length (x ∷ xs)) name

    old : ℕ
    old = get_or (x ∷ xs) bucket 0

    count : ℕ
    count = one_more old

    -- what holds of each bucket's new count, if it holds of the changed count and of all others
    at : (m : ℕ) → m < length (x ∷ xs) → (P : ℕ → Type 0) → ((bucket == m) ≡ true → P count) → ((bucket == m) ≡ false → P (get_or (x ∷ xs) m 0)) → P (get_or (set (x ∷ xs) bucket count) m 0)
    at m within P here there = ⊎_elim
        (λ t. let e = eqb-true bucket m t in subst (λ k. P (get_or (set (x ∷ xs) bucket count) k 0)) e (subst P (sym (get_or-set_same (x ∷ xs) bucket count 0 (omega (arith, e, within)))) (here t)))
        (λ f. subst P (sym (get_or-set_other (x ∷ xs) bucket m count 0 (λ e. both_ways (bucket == m) f (eq-eqb bucket m (sym e))))) (there f))
        (cases_Bool (bucket == m))

pub counts_more : (n : ℕ) (counts : List ℕ) (name : Text) (names : List Text) → AreCounts counts n names → AreCounts (with_one_more counts name) n (name ∷ names)
counts_more n counts name names are =
    subst (λ k. AreCounts (with_one_more counts name) k (name ∷ names)) are.count (counts_with counts name names (subst (λ k. AreCounts counts k names) (sym are.count) are))

pub counting_more : (all : List Text) (n : ℕ) (counts : List ℕ) (name : Text) (rest : List Text) → AreCounting all n counts (name ∷ rest) → AreCounting all n (with_one_more counts name) rest
counting_more all n counts name rest are = record {
  names = name ∷ are.names;
  counted = counts_more n counts name are.names are.counted;
  joined = are.joined;
}

-- ---- names that may recur

tally-unrolled : (n m : ℕ) (earlier rest : List Text) → tally n m (unrolled earlier rest) ≡ tally n m earlier + tally n m rest
tally-unrolled n m [] rest = let e : tally n m rest ≡ 0 + tally n m rest = omega arith in e
tally-unrolled n m (name ∷ earlier) rest = let e = tally-unrolled n m earlier (name ∷ rest) in omega (arith, e)

bucket_of_same : (n : ℕ) (a b : Text) → same a b ≡ true → bucket_of n a ≡ bucket_of n b
bucket_of_same n a b h = ap (λ (t : Text). hash_from 0 t % n) (same-true a b h)

-- names that are the same fall into one bucket
tally_same : (n : ℕ) (name : Text) (names : List Text) → list_any (same name) names ≡ true → 1 ≤ tally n (bucket_of n name) names
tally_same n name [] h = absurd (both_ways false refl h)
tally_same n name (other ∷ names) h = ⊎_elim
    (λ t. let e = counted_same (bucket_of n other == bucket_of n name) (tally n (bucket_of n name) names) (eq-eqb (bucket_of n other) (bucket_of n name) (sym (bucket_of_same n name other t))) in omega (arith, e))
    (λ f. let some = tally_same n name names (sym (ap (λ b. b || list_any (same name) names) f) ∙ h) in omega (arith, some))
    (cases_Bool (same name other))

shared_of : (counts : List ℕ) (name : Text) → (0 < length counts → get_or counts (bucket_of (length counts) name) 0 ≡ 2) → is_shared counts name ≡ true
shared_of [] name two = refl
shared_of (x ∷ xs) name two = eq-eqb (get_or (x ∷ xs) (bucket_of (length (x ∷ xs)) name) 0) 2 (two (let e : 0 < suc (length xs) = omega arith in e))

-- once all names are counted, each that is the same as an earlier one may recur
pub told_all : (filter : NameFilter) (all : List Text) → AreCounts filter.counts.items (length filter.counts.items) all
    → (earlier rest : List Text) → unrolled earlier rest ≡ all → AreTold (Some filter) earlier rest
told_all filter all counted earlier [] e = tt
told_all filter all counted earlier (name ∷ rest) e = (
  (λ again. shared_of filter.counts.items name (λ some.
      let n = length filter.counts.items in
      let bucket = bucket_of n name in
      let within : bucket < n = mod-lt (hash_from 0 (folded name)) some in
      let before = tally_same n name earlier again in
      let here = counted_same (bucket == bucket) (tally n bucket rest) (eq-eqb bucket bucket refl) in
      let whole = sym (tally-unrolled n bucket earlier (name ∷ rest)) ∙ ap (tally n bucket) e in
      let two = counted.more bucket within (omega (arith, before, here, whole)) in
      let most = counted.most bucket within in
      omega (arith, two, most))),
  told_all filter all counted (name ∷ earlier) rest e,
)

pub told_counted : (filter : NameFilter) (all : List Text) (n : ℕ) → AreCounting all n filter.counts.items [] → AreTold (Some filter) [] all
told_counted filter all n are = told_all filter all counted [] all refl
  where
    go : (k : ℕ) → length filter.counts.items ≡ k → AreCounts filter.counts.items k are.names → AreCounts filter.counts.items (length filter.counts.items) are.names
    go k e of_k = subst (λ j. AreCounts filter.counts.items j are.names) (sym e) of_k

    flat : (m : ℕ) → tally (length filter.counts.items) m all ≡ tally (length filter.counts.items) m are.names
    flat m = let e = ap (tally (length filter.counts.items) m) are.joined in let u = tally-unrolled (length filter.counts.items) m are.names [] in omega (arith, e, u)

    counted : AreCounts filter.counts.items (length filter.counts.items) all
    counted = let of = go n are.counted.count are.counted in record {
      count = refl;
      most = of.most;
      some = λ m within some. of.some m within (let e = flat m in omega (arith, e, some));
      more = λ m within more. of.more m within (let e = flat m in omega (arith, e, more));
    }

-- without a filter each name may recur
pub told_none : (earlier rest : List Text) → AreTold None earlier rest
told_none earlier [] = tt
told_none earlier (name ∷ rest) = ((λ again. refl), told_none (name ∷ earlier) rest)

-- what a filter tells of all names, it tells of the names left
pub told_at : (filter : Option NameFilter) (earlier rest : List Text) → AreTold filter [] (unrolled earlier rest) → AreTold filter earlier rest
told_at filter [] rest told = told
told_at filter (name ∷ earlier) rest told = (told_at filter earlier (name ∷ rest) told).1
