-- Ids that ascend.
use Rattle.bib_order.proofs.Words.{◌≡◌, ◌≢◌, ℕ, zero, suc, ◌-◌, ◌≤◌, ◌<◌, List, [], ◌∷◌, ◌++◌, length, take, drop, get_or, remove, ⊎_elim, refl, subst, arith, Result, Ok, Err, AllByRecursion, IfNone, cases_lt, Lacks, IsDistinct, Ascend, all_append, all_front, all_back}
use Rattle.std.specs.List.Sorted.{IsBinarySearchResult}
use Rattle.std.specs.Ordering.{nat_cmp}
use Rattle.std.specs.Result.{result_ok}
use Rattle.std.proofs.lemmas.List.Sorted.{searched}
use Rattle.bib_order.proofs.Ordering.{split_ids}

-- they are distinct
above_lacks : (ids : List ℕ) (id : ℕ) → AllByRecursion (λ other. id < other) ids → Lacks ids id
above_lacks [] id above = tt
above_lacks (x ∷ ids) id above = ((λ same. absurd (omega (arith, same, above.0))), above_lacks ids id above.1)

pub ascend_distinct : (ids : List ℕ) → Ascend ids → IsDistinct ids
ascend_distinct [] up = tt
ascend_distinct (x ∷ ids) up = (above_lacks ids x up.0, ascend_distinct ids up.1)

pub below_lacks : (ids : List ℕ) (id : ℕ) → AllByRecursion (λ other. other < id) ids → Lacks ids id
below_lacks [] id below = tt
below_lacks (x ∷ ids) id below = ((λ same. absurd (omega (arith, same, below.0))), below_lacks ids id below.1)

-- with one after them, and without one of them
pub ascend_more : (ids : List ℕ) (id : ℕ) → Ascend ids → AllByRecursion (λ other. other < id) ids → Ascend (ids ++ id ∷ [])
ascend_more [] id up below = (tt, tt)
ascend_more (x ∷ ids) id up below = (all_append (λ (y : ℕ). x < y) ids (id ∷ []) up.0 (below.0, tt), ascend_more ids id up.1 below.1)

ascend_out : (a b : List ℕ) (id : ℕ) → Ascend (a ++ id ∷ b) → Ascend (a ++ b)
ascend_out [] b id up = up.1
ascend_out (x ∷ a) b id up =
    let above = λ (y : ℕ). x < y in
    (all_append above a b (all_front above a (id ∷ b) up.0) (all_back above a (id ∷ b) up.0).1, ascend_out a b id up.1)

pub ascend_less : (ids : List ℕ) (n : ℕ) → n < length ids → Ascend ids → Ascend (remove ids n)
ascend_less ids n h up = ascend_out (take n ids) (drop (suc n) ids) (get_or ids n 0) (subst Ascend (split_ids ids n (get_or ids n 0) h refl) up)

-- ---- by their numbers

above_at : (ids : List ℕ) (id k : ℕ) → AllByRecursion (λ other. id < other) ids → k < length ids → id < get_or ids k 0
above_at [] id k above h = absurd (omega (arith, h))
above_at (x ∷ ids) id zero above h = above.0
above_at (x ∷ ids) id (suc k) above h = above_at ids id k above.1 (omega (arith, h))

pub ascend_at : (ids : List ℕ) (i j : ℕ) → Ascend ids → i ≤ j → j < length ids → get_or ids i 0 ≤ get_or ids j 0
ascend_at [] i j up le h = absurd (omega (arith, h))
ascend_at (x ∷ ids) zero zero up le h = omega arith
ascend_at (x ∷ ids) zero (suc j) up le h = omega (arith, above_at ids x j up.0 (omega (arith, h)))
ascend_at (x ∷ ids) (suc i) zero up le h = absurd (omega (arith, le))
ascend_at (x ∷ ids) (suc i) (suc j) up le h = ascend_at ids i j up.1 (omega (arith, le)) (omega (arith, h))

pub later_lacks : (ids : List ℕ) (k : ℕ) → Ascend ids → k < length ids → Lacks (take k ids) (get_or ids k 0)
later_lacks [] k up h = absurd (omega (arith, h))
later_lacks (x ∷ ids) zero up h = tt
later_lacks (x ∷ ids) (suc k) up h = ((λ same. absurd (omega (arith, same, above_at ids x k up.0 (omega (arith, h))))), later_lacks ids k up.1 (omega (arith, h)))

lacks_each : (ids : List ℕ) (id : ℕ) → ((k : ℕ) → k < length ids → get_or ids k 0 ≢ id) → Lacks ids id
lacks_each [] id each = tt
lacks_each (x ∷ ids) id each = (each zero (omega arith), lacks_each ids id (λ k h. each (suc k) (omega (arith, h))))

below_each : (ids : List ℕ) (id : ℕ) → ((k : ℕ) → k < length ids → get_or ids k 0 < id) → AllByRecursion (λ other. other < id) ids
below_each [] id each = tt
below_each (x ∷ ids) id each = (each zero (omega arith), below_each ids id (λ k h. each (suc k) (omega (arith, h))))

-- what is above the last is above all
pub below_next : (ids : List ℕ) (last id : ℕ) → Ascend ids → get_or ids (length ids - 1) 0 ≡ last → last < id → AllByRecursion (λ other. other < id) ids
below_next ids last id up is above = below_each ids id (λ k h. omega (arith, ascend_at ids k (length ids - 1) up (omega (arith, h)) (omega (arith, h))))

-- what a search does not find is not there
pub search_lacks : (ids : List ℕ) (id : ℕ) (r : Result ℕ ℕ) → IsBinarySearchResult (λ y. nat_cmp y id) ids r → Ascend ids → IfNone (result_ok r) (Lacks ids id)
search_lacks ids id (Ok n) is up = tt
search_lacks ids id (Err n) is up =
    let place = searched ids id (Err n) is (λ i j le h. ascend_at ids i j up le h) in
    lacks_each ids id (λ k h same. ⊎_elim
    (λ (low : k < n). absurd (omega (arith, same, place.1 k low)))
    (λ (high : n ≤ k). absurd (omega (arith, same, place.2 k high h)))
    (cases_lt k n))
