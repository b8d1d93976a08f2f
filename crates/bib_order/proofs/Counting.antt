-- How many of the ids that pass a test stand before a number.
use Rattle.bib_order.proofs.Words.{◌≡◌, ◌≢◌, ℕ, ◌-◌, ◌≤◌, ◌<◌, Bool, true, false, zero, suc, List, [], ◌∷◌, ◌++◌, length, take, drop, get_or, Some, sym, subst, ⊎_elim, ◌∙◌, ap, refl, arith, take-append-drop, length-append, slice_get, AllByRecursion, cases_Bool, cases_lt, cond-true, cond-false}
use Rattle.bib_order.proofs.Words.{get_or_append_left, get_or-append_right, length-filter, none-some, get_or_from_slice_get, Lacks, IsDistinct, is_among, holders, before, all_front, all_back}
use Rattle.std.specs.Prelude.{◌==◌}
use Rattle.std.specs.List.Sorted.{IsPartitionedBy, IsPartitionPoint}
use Rattle.std.proofs.lemmas.Bool.{both_ways, eq-eqb, ne_eqb}
use Rattle.std.proofs.lemmas.Option.{same_Some}
use Rattle.bib_order.proofs.Following.{holders-split}

-- ---- among some

among_first : (ids : List ℕ) (x id : ℕ) → x ≡ id → is_among (x ∷ ids) id ≡ true
among_first ids x id same = cond-true (x == id) true (is_among ids id) (eq-eqb x id same)

among_more : (ids : List ℕ) (x id : ℕ) → is_among ids id ≡ true → is_among (x ∷ ids) id ≡ true
among_more ids x id among = ⊎_elim
    (λ e. cond-true (x == id) true (is_among ids id) e)
    (λ e. cond-false (x == id) true (is_among ids id) e ∙ among)
    (cases_Bool (x == id))

pub lacks_among : (ids : List ℕ) (id : ℕ) → Lacks ids id → is_among ids id ≡ false
lacks_among [] id l = refl
lacks_among (x ∷ ids) id l = cond-false (x == id) true (is_among ids id) (ne_eqb x id l.0) ∙ lacks_among ids id l.1

-- an id is among the first n if its number is below n
pub stands_below : (ids : List ℕ) (n m id : ℕ) → slice_get ids m ≡ Some id → m < n → is_among (take n ids) id ≡ true
stands_below [] n m id e h = absurd (none-some id e)
stands_below (x ∷ ids) zero m id e h = absurd (omega (arith, h))
stands_below (x ∷ ids) (suc n) zero id e h = among_first (take n ids) x id (same_Some x id e)
stands_below (x ∷ ids) (suc n) (suc m) id e h = among_more (take n ids) x id (stands_below ids n m id e (omega (arith, h)))

pub lacks_at : (ids : List ℕ) (m id x : ℕ) → Lacks ids x → slice_get ids m ≡ Some id → id ≡ x → ⊥
lacks_at [] m id x l e same = none-some id e
lacks_at (y ∷ ids) zero id x l e same = l.0 (same_Some y id e ∙ same)
lacks_at (y ∷ ids) (suc m) id x l e same = lacks_at ids m id x l.1 e same

-- an id of a list of distinct ids is not among the first n if its number is not below n
later_lacks : (ids : List ℕ) (n m id : ℕ) → IsDistinct ids → slice_get ids m ≡ Some id → n ≤ m → Lacks (take n ids) id
later_lacks [] n m id d e h = absurd (none-some id e)
later_lacks (x ∷ ids) zero m id d e h = tt
later_lacks (x ∷ ids) (suc n) zero id d e h = absurd (omega (arith, h))
later_lacks (x ∷ ids) (suc n) (suc m) id d e h = ((λ same. lacks_at ids m id x d.0 e (sym same)), later_lacks ids n m id d.1 e (omega (arith, h)))

pub stands_later : (ids : List ℕ) (n m id : ℕ) → IsDistinct ids → slice_get ids m ≡ Some id → n ≤ m → is_among (take n ids) id ≡ false
stands_later ids n m id d e h = lacks_among (take n ids) id (later_lacks ids n m id d e h)

pub stands_nowhere : (ids : List ℕ) (n id : ℕ) → Lacks ids id → is_among (take n ids) id ≡ false
stands_nowhere ids n id l =
    lacks_among (take n ids) id (all_front (λ (x : ℕ). x ≢ id) (take n ids) (drop n ids) (subst (λ (r : List ℕ). Lacks r id) (sym (take-append-drop n ids)) l))

-- ---- what holds of all

all_weaker : (P Q : ℕ → Type 0) → ((x : ℕ) → P x → Q x) → (ids : List ℕ) → AllByRecursion P ids → AllByRecursion Q ids
all_weaker P Q f [] all = tt
all_weaker P Q f (x ∷ ids) all = (f x all.0, all_weaker P Q f ids all.1)

all_get : (P : ℕ → Type 0) (ids : List ℕ) (k d : ℕ) → AllByRecursion P ids → k < length ids → P (get_or ids k d)
all_get P [] k d all h = absurd (omega (arith, h))
all_get P (x ∷ ids) zero d all h = all.0
all_get P (x ∷ ids) (suc k) d all h = all_get P ids k d all.1 (omega (arith, h))

all_holders : (P : ℕ → Type 0) (test : ℕ → Bool) (ids : List ℕ) → AllByRecursion P ids → AllByRecursion P (holders test ids)
all_holders P test [] all = tt
all_holders P test (x ∷ ids) all = ⊎_elim
    (λ e. subst (AllByRecursion P) (sym (cond-true (test x) (x ∷ holders test ids) (holders test ids) e)) (all.0, all_holders P test ids all.1))
    (λ e. subst (AllByRecursion P) (sym (cond-false (test x) (x ∷ holders test ids) (holders test ids) e)) (all_holders P test ids all.1))
    (cases_Bool (test x))

all_among : (ids : List ℕ) → AllByRecursion (λ x. is_among ids x ≡ true) ids
all_among [] = tt
all_among (x ∷ ids) = (among_first ids x x refl, all_weaker (λ y. is_among ids y ≡ true) (λ y. is_among (x ∷ ids) y ≡ true) (λ y. among_more ids x y) ids (all_among ids))

-- of distinct ids, those at the back are not among those at the front
lacks_none : (b : List ℕ) → AllByRecursion (λ (y : ℕ). Lacks [] y) b
lacks_none [] = tt
lacks_none (y ∷ b) = (tt, lacks_none b)

lacks_one : (x : ℕ) (a b : List ℕ) → Lacks b x → AllByRecursion (λ (y : ℕ). Lacks a y) b → AllByRecursion (λ (y : ℕ). Lacks (x ∷ a) y) b
lacks_one x a [] l all = tt
lacks_one x a (y ∷ b) l all = (((λ e. l.0 (sym e)), all.0), lacks_one x a b l.1 all.1)

apart : (a b : List ℕ) → IsDistinct (a ++ b) → AllByRecursion (λ (y : ℕ). Lacks a y) b
apart [] b d = lacks_none b
apart (x ∷ a) b d = lacks_one x a b (all_back (λ (y : ℕ). y ≢ x) a b d.0) (apart a b d.1)

-- ---- the holders before a number

-- the first `count` of the ids that pass are among the first n ids, and the others are not
pub record IsCounted (now ids : List ℕ) (n count : ℕ) : Type 0 where
  pub within : count ≤ length ids
  pub front : (k d : ℕ) → k < count → is_among (take n now) (get_or ids k d) ≡ true
  pub back : (k d : ℕ) → count ≤ k → k < length ids → is_among (take n now) (get_or ids k d) ≡ false

pub counted : (test : ℕ → Bool) (now ids : List ℕ) (n : ℕ) → IsDistinct now → ids ≡ holders test now → IsCounted now ids n (before test now n)
counted test now ids n distinct is = record {
  within = omega (arith, total, count, length-append first rest);
  front = λ k d h.
      let low : k < length first = omega (arith, h, count) in
      ap (λ l. is_among (take n now) (get_or l k d)) whole
      ∙ ap (is_among (take n now)) (get_or_append_left first rest d k low)
      ∙ all_get (λ x. is_among (take n now) x ≡ true) first k d (all_holders (λ x. is_among (take n now) x ≡ true) test (take n now) (all_among (take n now))) low;
  back = λ k d h within.
      let high : length first ≤ k = omega (arith, h, count) in
      ap (λ l. is_among (take n now) (get_or l k d)) whole
      ∙ ap (is_among (take n now)) (get_or-append_right first rest (length first) k d refl high)
      ∙ lacks_among (take n now) (get_or rest (k - length first) d)
      (all_get (λ x. Lacks (take n now) x) rest (k - length first) d (all_holders (λ x. Lacks (take n now) x) test (drop n now) after) (omega (arith, within, high, total, length-append first rest)));
}
  where
    first : List ℕ
    first = holders test (take n now)

    rest : List ℕ
    rest = holders test (drop n now)

    whole : ids ≡ first ++ rest
    whole = is ∙ holders-split test now n

    total : length ids ≡ length (first ++ rest)
    total = ap (length {A = ℕ}) whole

    count : length first ≡ before test now n
    count = length-filter test (take n now)

    after : AllByRecursion (λ (y : ℕ). Lacks (take n now) y) (drop n now)
    after = apart (take n now) (drop n now) (subst IsDistinct (sym (take-append-drop n now)) distinct)

-- if the last id that passes is among the first n, all that pass are
pub counted_last : (now ids : List ℕ) (n count last : ℕ) → IsCounted now ids n count → slice_get ids (length ids - 1) ≡ Some last → is_among (take n now) last ≡ true → length ids ≡ count
counted_last now ids n count last c is among = ⊎_elim
    (λ (short : count < length ids).
    absurd (both_ways (is_among (take n now) last)
    (sym (ap (is_among (take n now)) (get_or_from_slice_get ids (length ids - 1) last 0 is)) ∙ c.back (length ids - 1) 0 (omega (arith, short)) (omega (arith, short))) among))
    (λ (long : length ids ≤ count). let w : count ≤ length ids = c.within in omega arith)
    (cases_lt count (length ids))

-- a search among the ids that pass ends at that number
pub counted_parts : (now ids : List ℕ) (n count : ℕ) → IsCounted now ids n count → IsPartitionedBy (is_among (take n now)) ids
counted_parts now ids n count c i j d le h among = ⊎_elim
    (λ (low : j < count). c.front i d (omega (arith, le, low)))
    (λ (high : count ≤ j). absurd (both_ways (is_among (take n now) (get_or ids j d)) (c.back j d high h) among))
    (cases_lt j count)

pub counted_point : (now ids : List ℕ) (n count point : ℕ) → IsCounted now ids n count → point ≤ length ids
    → IsPartitionPoint (λ id. is_among (take n now) id ≡ true) (λ id. is_among (take n now) id ≡ false) ids point → point ≡ count
counted_point now ids n count point c within is = ⊎_elim
    (λ (low : point < count). let w : count ≤ length ids = c.within in
    absurd (both_ways (is_among (take n now) (get_or ids point 0)) (is.1 point 0 (omega arith) (omega arith)) (c.front point 0 low)))
    (λ (high : count ≤ point). ⊎_elim
    (λ (over : count < point).
    absurd (both_ways (is_among (take n now) (get_or ids count 0)) (c.back count 0 (omega arith) (omega (arith, within, over))) (is.0 count 0 (omega arith) over)))
    (λ (le : point ≤ count). omega arith)
    (cases_lt count point))
    (cases_lt point count)
