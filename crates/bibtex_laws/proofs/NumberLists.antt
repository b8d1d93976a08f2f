-- Lists of numbers with the same members.
use Rattle.std.proofs.Common.{◌≡◌, ◌∙◌, ℕ, zero, suc, ◌+◌, ◌<◌, ◌≤◌, ◌==◌, Bool, true, false, cond, not, ◌&&◌, ◌||◌, List, [], ◌∷◌, ◌++◌, IsPermutation, All, Contains, count_by, filter, get_or, ⊎_elim, refl, sym, ap, ap₂, subst, arith, eqb-true, eq-eqb, ne_eqb, eq-or-lt_of_le, le_of_suc-le-suc}
use Rattle.std.specs.Bool.{⊤}
use Rattle.std.specs.List.{list_any, range_with_len, AllByRecursion}
use Rattle.std.proofs.lemmas.Bool.{cases_Bool, or_parts, or_left, or_right, true≢false}
use Rattle.std.proofs.lemmas.List.Folds.{list_any_at}
use Rattle.std.proofs.lemmas.List.Elements.{All-contains, All-from_get_or, Contains-append_right}
use Rattle.std.proofs.lemmas.List.Sorted.{IsPermutation-refl, IsPermutation-trans, IsPermutation-cons, IsPermutation-middle}
use Rattle.bib_spec.specs.Records.{once}
use Rattle.bib_spec.proofs.Counts.{count-yes, count-no}

-- the number is in the list
abbrev pub is_in : ℕ → List ℕ → Bool
is_in m ns = list_any (λ n. n == m) ns

-- no number is in the list twice
abbrev pub NoneTwice : List ℕ → Type 0
NoneTwice [] = ⊤
NoneTwice (n ∷ ns) = (is_in n ns ≡ false) × NoneTwice ns

-- the lists have the same members
abbrev pub SameMembers : List ℕ → List ℕ → Type 0
SameMembers ms ns = (m : ℕ) → is_in m ms ≡ is_in m ns

pub is_itself : (n : ℕ) → (n == n) ≡ true
is_itself n = eq-eqb n n refl

-- ---- without one number

abbrev without : ℕ → List ℕ → List ℕ
without n ns = filter (λ m. not (m == n)) ns

without_is : (n m : ℕ) (ns : List ℕ) → is_in m (without n ns) ≡ (not (m == n) && is_in m ns)
without_is n m [] = none_ (not (m == n))
  where
    none_ : (b : Bool) → false ≡ (b && false)
    none_ true = refl
    none_ false = refl
without_is n m (k ∷ ns) = split (k == n) (m == n) (k == m) refl refl refl (without_is n m ns)
  where
    split : (a b c : Bool) → (k == n) ≡ a → (m == n) ≡ b → (k == m) ≡ c → is_in m (without n ns) ≡ (not b && is_in m ns)
        → is_in m (cond (not a) (k ∷ without n ns) (without n ns)) ≡ (not b && (c || is_in m ns))
    split true true c one two three rest = rest
    split true false true one two three rest = absurd (true≢false (sym (ap (λ (j : ℕ). j == n) (sym (eqb-true k m three)) ∙ one) ∙ two))
    split true false false one two three rest = rest
    split false true true one two three rest = absurd (true≢false (sym (ap (λ (j : ℕ). j == n) (eqb-true k m three) ∙ two) ∙ one))
    split false true false one two three rest = ap (λ (d : Bool). d || is_in m (without n ns)) three ∙ rest
    split false false true one two three rest = ap (λ (d : Bool). d || is_in m (without n ns)) three
    split false false false one two three rest = ap (λ (d : Bool). d || is_in m (without n ns)) three ∙ rest

without_once : (n : ℕ) (ns : List ℕ) → NoneTwice ns → NoneTwice (without n ns)
without_once n [] once_ = tt
without_once n (k ∷ ns) once_ = split (k == n) (without_once n ns once_.1)
  where
    and_none : (b : Bool) → (b && false) ≡ false
    and_none true = refl
    and_none false = refl

    split : (b : Bool) → NoneTwice (without n ns) → NoneTwice (cond (not b) (k ∷ without n ns) (without n ns))
    split true rest = rest
    split false rest = (without_is n k ns ∙ ap (λ (c : Bool). not (k == n) && c) once_.0 ∙ and_none (not (k == n)), rest)

without_other : (n : ℕ) (ns : List ℕ) → is_in n ns ≡ false → without n ns ≡ ns
without_other n [] none_ = refl
without_other n (k ∷ ns) none_ =
    let both = or_parts (k == n) (is_in n ns) none_ in
    ap (λ (b : Bool). cond (not b) (k ∷ without n ns) (without n ns)) both.0 ∙ ap (λ (l : List ℕ). k ∷ l) (without_other n ns both.1)

pub once_is : (ns : List ℕ) → NoneTwice (once ns)
once_is [] = tt
once_is (n ∷ ns) = (without_is n n (once ns) ∙ ap (λ (b : Bool). not b && is_in n (once ns)) (is_itself n), without_once n (once ns) (once_is ns))

-- ---- permutations

-- a number of the list may be put first
put_first : (n : ℕ) (ns : List ℕ) → NoneTwice ns → is_in n ns ≡ true → IsPermutation ns (n ∷ without n ns)
put_first n [] once_ is = absurd (true≢false (sym is))
put_first n (k ∷ ns) once_ is = split (k == n) refl is (put_first n ns once_.1)
  where
    split : (b : Bool) → (k == n) ≡ b → (b || is_in n ns) ≡ true → (is_in n ns ≡ true → IsPermutation ns (n ∷ without n ns))
        → IsPermutation (k ∷ ns) (n ∷ cond (not b) (k ∷ without n ns) (without n ns))
    split true here is rest =
        let at : k ≡ n = eqb-true k n here in
        subst (λ (l : List ℕ). IsPermutation (k ∷ ns) l) (ap₂ (λ (j : ℕ) (l : List ℕ). j ∷ l) at (sym (without_other n ns (ap (λ (j : ℕ). is_in j ns) (sym at) ∙ once_.0)))) (IsPermutation-refl (k ∷ ns))
    split false other is rest =
        IsPermutation-trans (k ∷ ns) (k ∷ (n ∷ without n ns)) (n ∷ (k ∷ without n ns)) (IsPermutation-cons k ns (n ∷ without n ns) (rest is)) (IsPermutation-middle (k ∷ []) n (without n ns))

pub same_members_permute : (ms ns : List ℕ) → NoneTwice ms → NoneTwice ns → SameMembers ms ns → IsPermutation ms ns
same_members_permute [] [] once_ once' same_ = IsPermutation-refl []
same_members_permute (m ∷ ms) [] once_ once' same_ = absurd (true≢false (sym (or_left (m == m) (is_in m ms) (is_itself m)) ∙ same_ m))
same_members_permute ms (n ∷ ns) once_ once' same_ =
    IsPermutation-trans ms (n ∷ without n ms) (n ∷ ns)
    (put_first n ms once_ (same_ n ∙ or_left (n == n) (is_in n ns) (is_itself n)))
    (IsPermutation-cons n (without n ms) ns (same_members_permute (without n ms) ns (without_once n ms once_) once'.1 rest))
  where
    rest : SameMembers (without n ms) ns
    rest m = without_is n m ms ∙ ap (λ (b : Bool). not (m == n) && b) (same_ m) ∙ split (m == n) refl
      where
        split : (b : Bool) → (m == n) ≡ b → (not b && ((n == m) || is_in m ns)) ≡ is_in m ns
        split true is = sym (ap (λ (j : ℕ). is_in j ns) (eqb-true m n is) ∙ once'.0)
        split false is = ap (λ (b : Bool). b || is_in m ns) (ne_eqb n m (λ (e : n ≡ m). true≢false (sym (eq-eqb m n (sym e)) ∙ is)))

-- ---- rising lists

-- each number is below all after it
abbrev pub Rises : List ℕ → Type 0
Rises [] = ⊤
Rises (n ∷ ns) = AllByRecursion (λ m. n < m) ns × Rises ns

-- a number below all of the list is not in it
below_none : (n : ℕ) (ns : List ℕ) → AllByRecursion (λ m. n < m) ns → is_in n ns ≡ false
below_none n [] all = refl
below_none n (m ∷ ns) all = ap₂ (λ (b c : Bool). b || c) (ne_eqb m n (λ (e : m ≡ n). let less : n < m = all.0 in omega (arith, less, e))) (below_none n ns all.1)

pub rises_once : (ns : List ℕ) → Rises ns → NoneTwice ns
rises_once [] rises = tt
rises_once (n ∷ ns) rises = (below_none n ns rises.0, rises_once ns rises.1)

member_above : (n m : ℕ) (ns : List ℕ) → AllByRecursion (λ k. n < k) ns → is_in m ns ≡ true → n < m
member_above n m [] all is = absurd (true≢false (sym is))
member_above n m (k ∷ ns) all is = split (k == m) refl is (member_above n m ns all.1)
  where
    split : (b : Bool) → (k == m) ≡ b → (b || is_in m ns) ≡ true → (is_in m ns ≡ true → n < m) → n < m
    split true here is rest = subst (λ (j : ℕ). n < j) (eqb-true k m here) all.0
    split false other is rest = rest is

-- rising lists with the same members are equal
pub rising_alike : (ms ns : List ℕ) → Rises ms → Rises ns → SameMembers ms ns → ms ≡ ns
rising_alike [] [] rises rises' same_ = refl
rising_alike [] (n ∷ ns) rises rises' same_ = absurd (true≢false (sym (or_left (n == n) (is_in n ns) (is_itself n)) ∙ sym (same_ n)))
rising_alike (m ∷ ms) [] rises rises' same_ = absurd (true≢false (sym (or_left (m == m) (is_in m ms) (is_itself m)) ∙ same_ m))
rising_alike (m ∷ ms) (n ∷ ns) rises rises' same_ = ap₂ ◌∷◌ first (rising_alike ms ns rises.1 rises'.1 rest)
  where
    first : m ≡ n
    first = ⊎_elim
        (λ is. sym (eqb-true n m is))
        (λ other.
        let here : is_in m ns ≡ true = ap (λ (b : Bool). b || is_in m ns) (sym other) ∙ sym (same_ m) ∙ or_left (m == m) (is_in m ms) (is_itself m) in
        let apart : (m == n) ≡ false = ne_eqb m n (λ (e : m ≡ n). true≢false (sym (eq-eqb n m (sym e)) ∙ other)) in
        let there : is_in n ms ≡ true = ap (λ (b : Bool). b || is_in n ms) (sym apart) ∙ same_ n ∙ or_left (n == n) (is_in n ns) (is_itself n) in
        let one : n < m = member_above n m ns rises'.0 here in
        let two : m < n = member_above m n ms rises.0 there in
        absurd (omega (arith, one, two)))
        (cases_Bool (n == m))

    rest : SameMembers ms ns
    rest k = ⊎_elim
        (λ is. let at : m ≡ k = eqb-true m k is in
        ap (λ (j : ℕ). is_in j ms) (sym at) ∙ below_none m ms rises.0 ∙ sym (ap (λ (j : ℕ). is_in j ns) (sym at ∙ first) ∙ below_none n ns rises'.0))
        (λ other. ap (λ (b : Bool). b || is_in k ms) (sym other) ∙ same_ k ∙ ap (λ (b : Bool). b || is_in k ns) (ap (λ (j : ℕ). j == k) (sym first) ∙ other))
        (cases_Bool (m == k))

-- a rising list may get a number that is above all
pub rises_and : (ns : List ℕ) (n : ℕ) → Rises ns → ((m : ℕ) → is_in m ns ≡ true → m < n) → Rises (ns ++ n ∷ [])
rises_and [] n rises all = (tt, tt)
rises_and (m ∷ ns) n rises all = (
  above ns rises.0,
  rises_and ns n rises.1 (λ k is. all k (or_right (m == k) (is_in k ns) is)),
)
  where
    above : (ks : List ℕ) → AllByRecursion (λ k. m < k) ks → AllByRecursion (λ k. m < k) (ks ++ n ∷ [])
    above [] up = (all m (or_left (m == m) (is_in m ns) (is_itself m)), tt)
    above (k ∷ ks) up = (up.0, above ks up.1)

-- ---- numbers from one on, that pass a test

module _ (p : ℕ → Bool) where
  filtered_above : (n a : ℕ) (count : ℕ) → n < a → AllByRecursion (λ k. n < k) (filter p (range_with_len a count))
  filtered_above n a zero less = tt
  filtered_above n a (suc count) less = split (p a) (filtered_above n (a + 1) count (omega (arith, less)))
    where
      split : (b : Bool) → AllByRecursion (λ k. n < k) (filter p (range_with_len (a + 1) count)) → AllByRecursion (λ k. n < k) (cond b (a ∷ filter p (range_with_len (a + 1) count)) (filter p (range_with_len (a + 1) count)))
      split true rest = (less, rest)
      split false rest = rest

  pub filtered_rises : (a count : ℕ) → Rises (filter p (range_with_len a count))
  filtered_rises a zero = tt
  filtered_rises a (suc count) = split (p a) (filtered_rises (a + 1) count)
    where
      split : (b : Bool) → Rises (filter p (range_with_len (a + 1) count)) → Rises (cond b (a ∷ filter p (range_with_len (a + 1) count)) (filter p (range_with_len (a + 1) count)))
      split true rest = (filtered_above a (a + 1) count (omega arith), rest)
      split false rest = rest

  -- the numbers from a on that are in the filtered list: those that pass
  pub filtered_is : (m a count : ℕ) → a ≤ m → m < a + count → is_in m (filter p (range_with_len a count)) ≡ p m
  filtered_is m a zero from less = absurd (omega (arith, from, less))
  filtered_is m a (suc count) from less = by_place (a == m) refl (p a) refl (λ after. filtered_is m (a + 1) count after (omega (arith, less)))
    where
      rest : List ℕ
      rest = filter p (range_with_len (a + 1) count)

      after : (a == m) ≡ false → a + 1 ≤ m
      after other = ⊎_elim (λ (e : a ≡ m). absurd (true≢false (sym (eq-eqb a m e) ∙ other))) (λ (less : a < m). omega (arith, less)) (eq-or-lt_of_le from)

      by_place : (b : Bool) → (a == m) ≡ b → (c : Bool) → p a ≡ c → (a + 1 ≤ m → is_in m rest ≡ p m) → is_in m (cond c (a ∷ rest) rest) ≡ p m
      by_place true here true passes later = or_left (a == m) (is_in m rest) here ∙ sym (ap p (sym (eqb-true a m here)) ∙ passes)
      by_place true here false fails later =
          let at : a ≡ m = eqb-true a m here in
          ap (λ (k : ℕ). is_in k rest) (sym at) ∙ below_none a rest (filtered_above a (a + 1) count (omega arith)) ∙ sym (ap p (sym at) ∙ fails)
      by_place false other true passes later = ap (λ (b : Bool). b || is_in m rest) other ∙ later (after other)
      by_place false other false fails later = later (after other)

  pub filtered_far : (m a count : ℕ) → a + count ≤ m → is_in m (filter p (range_with_len a count)) ≡ false
  filtered_far m a zero far = refl
  filtered_far m a (suc count) far = split (p a) (filtered_far m (a + 1) count (omega (arith, far)))
    where
      split : (b : Bool) → is_in m (filter p (range_with_len (a + 1) count)) ≡ false → is_in m (cond b (a ∷ filter p (range_with_len (a + 1) count)) (filter p (range_with_len (a + 1) count))) ≡ false
      split true rest = ap₂ (λ (b c : Bool). b || c) (ne_eqb a m (λ (e : a ≡ m). omega (arith, far, e))) rest
      split false rest = rest

-- ---- counts

-- how many numbers below n pass
abbrev pub count_below : ℕ → (ℕ → Bool) → ℕ
count_below zero q = 0
count_below (suc n) q = cond (q n) (suc (count_below n q)) (count_below n q)

pub count_alike : (n : ℕ) (p q : ℕ → Bool) → ((i : ℕ) → i < n → p i ≡ q i) → count_below n p ≡ count_below n q
count_alike zero p q alike = refl
count_alike (suc n) p q alike =
    let last : n < suc n = omega arith in
    ap₂ (λ (b : Bool) (k : ℕ). cond b (suc k) k) (alike n last) (count_alike n p q (λ i less. alike i (omega (arith, less))))

pub count_none : (n : ℕ) (q : ℕ → Bool) → ((i : ℕ) → i < n → q i ≡ false) → count_below n q ≡ 0
count_none zero q none_ = refl
count_none (suc n) q none_ =
    let last : n < suc n = omega arith in
    ap₂ (λ (b : Bool) (k : ℕ). cond b (suc k) k) (none_ n last) (count_none n q (λ i less. none_ i (omega (arith, less))))

-- one number more counts once
count_and : (n m : ℕ) (p q : ℕ → Bool) → q m ≡ false → m < n → count_below n (λ i. ((m == i) || q i) && p i) ≡ cond (p m) 1 0 + count_below n (λ i. q i && p i)
count_and zero m p q new less = absurd (omega (arith, less))
count_and (suc n) m p q new less = ⊎_elim
    (λ (is : m ≡ n).
    let here : (m == n) ≡ true = eq-eqb m n is in
    ap₂ (λ (b : Bool) (k : ℕ). cond ((b || q n) && p n) (suc k) k) here (count_alike n (λ i. ((m == i) || q i) && p i) (λ i. q i && p i) (λ i low. ap (λ (b : Bool). (b || q i) && p i) (ne_eqb m i (λ (e : m ≡ i). omega (arith, low, is, e)))))
    ∙ once_ (p n) (q n) (count_below n (λ i. q i && p i)) (ap q (sym is) ∙ new)
    ∙ ap (λ (k : ℕ). cond (p k) 1 0 + cond (q n && p n) (suc (count_below n (λ i. q i && p i))) (count_below n (λ i. q i && p i))) (sym is))
    (λ (low : m < n).
    ap₂ (λ (b : Bool) (k : ℕ). cond ((b || q n) && p n) (suc k) k) (ne_eqb m n (λ (e : m ≡ n). omega (arith, low, e))) (count_and n m p q new low)
    ∙ later (q n && p n) (cond (p m) 1 0) (count_below n (λ i. q i && p i)))
    (eq-or-lt_of_le (le_of_suc-le-suc less))
  where
    once_ : (b c : Bool) (k : ℕ) → c ≡ false → cond b (suc k) k ≡ cond b 1 0 + cond (c && b) (suc k) k
    once_ true true k new = absurd (true≢false new)
    once_ false true k new = absurd (true≢false new)
    once_ true false k new = omega arith
    once_ false false k new = omega arith

    later : (b : Bool) (j k : ℕ) → cond b (suc (j + k)) (j + k) ≡ j + cond b (suc k) k
    later true j k = omega arith
    later false j k = refl

-- a count of a list without repetitions is a count of numbers
pub count_once : (n : ℕ) (p : ℕ → Bool) (ns : List ℕ) → NoneTwice ns → AllByRecursion (λ m. m < n) ns → count_by p ns ≡ count_below n (λ i. is_in i ns && p i)
count_once n p [] once_ low = sym (count_none n (λ i. false && p i) (λ i less. refl))
count_once n p (m ∷ ns) once_ low =
    split (p m) refl
    ∙ ap (λ (k : ℕ). cond (p m) 1 0 + k) (count_once n p ns once_.1 low.1)
    ∙ sym (count_and n m p (λ i. is_in i ns) once_.0 low.0)
  where
    split : (b : Bool) → p m ≡ b → count_by p (m ∷ ns) ≡ cond b 1 0 + count_by p ns
    split true is = count-yes p m ns is
    split false is = count-no p m ns is ∙ (let same_ : count_by p ns ≡ 0 + count_by p ns = omega arith in same_)

-- ---- members

pub member_contained : (m : ℕ) (ns : List ℕ) → is_in m ns ≡ true → Contains ns m
member_contained m [] is = absurd (true≢false (sym is))
member_contained m (n ∷ ns) is = split (n == m) refl is (member_contained m ns)
  where
    split : (b : Bool) → (n == m) ≡ b → (b || is_in m ns) ≡ true → (is_in m ns ≡ true → Contains ns m) → Contains (n ∷ ns) m
    split true here is rest = (0, omega arith, eqb-true n m here)
    split false other is rest = Contains-append_right (n ∷ []) ns m (rest is)

all_members : (ns : List ℕ) → All (λ m. is_in m ns ≡ true) ns
all_members ns = All-from_get_or (λ m. is_in m ns ≡ true) ns 0 (λ i less. list_any_at (λ n. n == get_or ns i 0) ns i 0 less (is_itself (get_or ns i 0)))

pub contained_member : (m : ℕ) (ns : List ℕ) → Contains ns m → is_in m ns ≡ true
contained_member m ns has = All-contains (λ m. is_in m ns ≡ true) ns m (all_members ns) has
