-- Ids that are their own numbers.
use Rattle.bib_order.proofs.Words.{◌≡◌, ℕ, zero, suc, ◌+◌, ◌≤◌, ◌<◌, List, [], ◌∷◌, ◌++◌, length, get_or, ◌-◌, Some, insert, remove, refl, subst, sym, ◌∙◌, ap, ⊎_elim, arith, length-append, slice_get, AllByRecursion, cases_lt, get_or_append_left, get_or-append_right, slice_get-get_or, all_append}
use Rattle.bib_order.proofs.Words.{Lacks, Ascend}
use Rattle.std.proofs.Common.{append-nil}
use Rattle.std.specs.Prelude.{vec_len, vec_capacity}
use Rattle.std.specs.declared.vec.Vec.{Vec}
use Rattle.std.proofs.Math.Seq.{get_or-append_seam}
use Rattle.std.proofs.lemmas.List.Edits.{insert_end, remove-append_left, remove-append_right}
use Rattle.bib_order.specs.Counted.{counted}
use Rattle.bib_order.proofs.Ascending.{ascend_more, below_lacks}
use Rattle.bib_order.proofs.Ordering.{lacks_append}

length_counted : (n : ℕ) → length (counted n) ≡ n
length_counted zero = refl
length_counted (suc n) = omega (arith, length-append (counted n) (n ∷ []), length_counted n)

at_counted : (n k : ℕ) → k < n → get_or (counted n) k 0 ≡ k
at_counted zero k h = absurd (omega (arith, h))
at_counted (suc n) k h =
    let len = length_counted n in
    ⊎_elim
    (λ (low : k < n). get_or_append_left (counted n) (n ∷ []) 0 k (omega (arith, low, len)) ∙ at_counted n k low)
    (λ (high : n ≤ k). let last : k ≡ length (counted n) = omega (arith, h, high, len) in ap (λ (i : ℕ). get_or (counted n ++ n ∷ []) i 0) last ∙ get_or-append_seam (counted n) n [] 0 ∙ sym (last ∙ len))
    (cases_lt k n)

all_below : (n m : ℕ) (ids : List ℕ) → n ≤ m → AllByRecursion (λ other. other < n) ids → AllByRecursion (λ other. other < m) ids
all_below n m [] h below = tt
all_below n m (x ∷ ids) h below = (omega (arith, h, below.0), all_below n m ids h below.1)

below_counted : (n : ℕ) → AllByRecursion (λ other. other < n) (counted n)
below_counted zero = tt
below_counted (suc n) = all_append (λ (other : ℕ). other < suc n) (counted n) (n ∷ []) (all_below n (suc n) (counted n) (omega arith) (below_counted n)) (omega arith, tt)

ascend_counted : (n : ℕ) → Ascend (counted n)
ascend_counted zero = tt
ascend_counted (suc n) = ascend_more (counted n) n (ascend_counted n) (below_counted n)

-- ---- with others after them

pub length_all : (count : ℕ) (list : List ℕ) → length (counted count ++ list) ≡ count + length list
length_all count list = omega (arith, length-append (counted count) list, length_counted count)

pub at_front : (count : ℕ) (list : List ℕ) (n : ℕ) → n < count → get_or (counted count ++ list) n 0 ≡ n
at_front count list n h = get_or_append_left (counted count) list 0 n (omega (arith, h, length_counted count)) ∙ at_counted count n h

pub at_back : (count : ℕ) (list : List ℕ) (n : ℕ) → count ≤ n → get_or (counted count ++ list) n 0 ≡ get_or list (n - count) 0
at_back count list n h = get_or-append_right (counted count) list count n 0 (length_counted count) h

pub front_found : (count : ℕ) (list : List ℕ) (id : ℕ) → id < count → slice_get (counted count ++ list) id ≡ Some id
front_found count list id h =
    slice_get-get_or (counted count ++ list) id 0 (omega (arith, h, length_all count list)) ∙ ap (λ (x : ℕ). Some x) (at_front count list id h)

pub lacks_all : (count : ℕ) (list : List ℕ) (id : ℕ) → count ≤ id → Lacks list id → Lacks (counted count ++ list) id
lacks_all count list id h lacks = lacks_append (counted count) list id (below_lacks (counted count) id (all_below count id (counted count) h (below_counted count))) lacks

-- one more id comes, when no other is written down
pub more_counted : (count : ℕ) (list : List ℕ) → list ≡ [] → counted (count + 1) ++ list ≡ insert (counted count ++ list) (length (counted count ++ list)) count
more_counted count list none =
    let next : count + 1 ≡ suc count = omega arith in
    ap (λ (n : ℕ). counted n ++ list) next ∙ ap (λ (l : List ℕ). (counted count ++ count ∷ []) ++ l) none ∙ append-nil (counted count ++ count ∷ [])
    ∙ sym (insert_end (counted count) count) ∙ ap (λ (ids : List ℕ). insert ids (length ids) count) (sym (ap (λ (l : List ℕ). counted count ++ l) none ∙ append-nil (counted count)))

pub lacks_counted : (count : ℕ) (list : List ℕ) → list ≡ [] → Lacks (counted count ++ list) count
lacks_counted count list none = lacks_all count list count (omega arith) (subst (λ (l : List ℕ). Lacks l count) (sym none) tt)

pub ascend_alone : (count : ℕ) (list : List ℕ) → list ≡ [] → Ascend (counted count ++ list)
ascend_alone count list none = subst Ascend (sym (ap (λ (l : List ℕ). counted count ++ l) none ∙ append-nil (counted count))) (ascend_counted count)

-- the last id is removed, when no other is written down
pub less_counted : (count n : ℕ) (list : List ℕ) → 0 < count → n ≡ count - 1 → remove (counted count ++ list) n ≡ counted n ++ list
less_counted zero n list h e = absurd (omega (arith, h))
less_counted (suc m) n list h e =
    let last : n ≡ m = omega (arith, e) in
    let len = length_counted m in
    let longer = length_counted (suc m) in
    remove-append_left (counted (suc m)) list n (omega (arith, last, longer))
    ∙ ap (λ (ids : List ℕ). ids ++ list) (ap (λ (i : ℕ). remove (counted m ++ m ∷ []) i) last ∙ remove-append_right (counted m) (m ∷ []) m m len (omega arith) ∙ ap (λ (i : ℕ). counted m ++ remove (m ∷ []) i) here ∙ append-nil (counted m) ∙ ap counted (sym last))
  where
    here : m - m ≡ 0
    here = omega arith

-- ---- writing them down

-- the ids below `id` are written down, and there is room for the others up to `count`
pub record IsWritten {Z : Type 0} (id count : ℕ) (was list : Vec ℕ Z) : Type 0 where
  pub ids : list.items ≡ counted id ++ was.items
  pub len : 0 < count → vec_len list ≡ id
  pub room : 0 < count → count ≤ vec_capacity list
