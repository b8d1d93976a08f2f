-- Labels in order, when one comes or goes.
use Rattle.bib_numbers.proofs.Words.{◌≡◌, ℕ, zero, suc, ◌≤◌, ◌<◌, List, [], ◌∷◌, ◌++◌, length, get_or, insert, remove, refl, ap, arith, AllByRecursion, AreLabels, Ascend, rank_in}
use Rattle.bib_numbers.specs.Labels.{label_limit, Rise}
use Rattle.bib_numbers.proofs.MovedNumbers.{all_removed, rank_of}

-- numbers that rise ascend
pub rising_ascend : (labels : List ℕ) → Rise labels → Ascend labels
rising_ascend [] rise = tt
rising_ascend (m ∷ labels) rise = (weaker labels rise.0, rising_ascend labels rise.1)
  where
    weaker : (labels : List ℕ) → AllByRecursion (λ k. m < k) labels → AllByRecursion (λ k. m ≤ k) labels
    weaker [] all = tt
    weaker (k ∷ labels) all = (let low = all.0 in omega (arith, low), weaker labels all.1)

-- a label has less ones before it, and greater ones after it
pub rise_parted : (front rest : List ℕ) (l : ℕ) → Rise (front ++ l ∷ rest) → AllByRecursion (λ m. m < l) front × AllByRecursion (λ m. l < m) rest
rise_parted [] rest l rise = (tt, rise.0)
rise_parted (m ∷ front) rest l rise = let parts = rise_parted front rest l rise.1 in ((below front rise.0, parts.0), parts.1)
  where
    below : (front : List ℕ) → AllByRecursion (λ k. m < k) (front ++ l ∷ rest) → m < l
    below [] all = all.0
    below (k ∷ front) all = below front all.1

-- as many labels are below it as come before it
pub rank_rising : (front rest : List ℕ) (l : ℕ) → Rise (front ++ l ∷ rest) → rank_in l (front ++ l ∷ rest) ≡ length front
rank_rising front rest l rise =
    let parts = rise_parted front rest l rise in
    rank_of l front (l ∷ rest) (front ++ l ∷ rest) (record { whole = refl; below = parts.0; above = (omega arith, least rest parts.1) })
  where
    least : (rest : List ℕ) → AllByRecursion (λ m. l < m) rest → AllByRecursion (λ m. l ≤ m) rest
    least [] all = tt
    least (m ∷ rest) all = (let low = all.0 in omega (arith, low), least rest all.1)

-- ---- a label comes

all_put : (P : ℕ → Type 0) (labels : List ℕ) (k l : ℕ) → P l → AllByRecursion P labels → AllByRecursion P (insert labels k l)
all_put P [] zero l it all = (it, tt)
all_put P [] (suc k) l it all = (it, tt)
all_put P (m ∷ labels) zero l it all = (it, all)
all_put P (m ∷ labels) (suc k) l it all = (all.0, all_put P labels k l it all.1)

-- what is less than all is less than one of them
all_at : (m : ℕ) (labels : List ℕ) (k : ℕ) → k < length labels → AllByRecursion (λ j. m < j) labels → m < get_or labels k 0
all_at m [] k lt all = absurd (omega (arith, lt))
all_at m (j ∷ labels) zero lt all = all.0
all_at m (j ∷ labels) (suc k) lt all = all_at m labels k (omega (arith, lt)) all.1

below_next : (m : ℕ) (labels : List ℕ) (k l : ℕ) → k ≤ length labels → AllByRecursion (λ j. m < j) labels → ((j : ℕ) → suc j ≡ suc k → get_or (m ∷ labels) j 0 < l) → m < l
below_next m labels zero l le all low = low 0 refl
below_next m labels (suc k) l le all low =
    let here = all_at m labels k (omega (arith, le)) all in
    let next = low (suc k) refl in
    omega (arith, here, next)

above_label : (labels : List ℕ) (l : ℕ) → (0 < length labels → l < get_or labels 0 0) → Rise labels → AllByRecursion (λ m. l < m) labels
above_label [] l high rise = tt
above_label (m ∷ labels) l high rise = (high (omega arith), later labels rise.0)
  where
    later : (labels : List ℕ) → AllByRecursion (λ k. m < k) labels → AllByRecursion (λ k. l < k) labels
    later [] all = tt
    later (k ∷ labels) all = (let low = all.0 in let first = high (omega arith) in omega (arith, low, first), later labels all.1)

rise_put : (labels : List ℕ) (k l : ℕ) → k ≤ length labels → ((j : ℕ) → suc j ≡ k → get_or labels j 0 < l) → (k < length labels → l < get_or labels k 0) → Rise labels → Rise (insert labels k l)
rise_put [] zero l le low high rise = (tt, tt)
rise_put [] (suc k) l le low high rise = (tt, tt)
rise_put (m ∷ labels) zero l le low high rise = (above_label (m ∷ labels) l high rise, rise)
rise_put (m ∷ labels) (suc k) l le low high rise = (
  all_put (λ j. m < j) labels k l (below_next m labels k l (omega (arith, le)) rise.0 low) rise.0,
  rise_put labels k l (omega (arith, le)) (λ j e. low (suc j) (ap suc e)) (λ lt. high (omega (arith, lt))) rise.1,
)

-- a label between its neighbours
pub labels_put : (labels : List ℕ) (k l : ℕ) → k ≤ length labels → ((j : ℕ) → suc j ≡ k → get_or labels j 0 < l) → (k < length labels → l < get_or labels k 0) → l < label_limit → AreLabels labels → AreLabels (insert labels k l)
labels_put labels k l le low high fits are = record { rise = rise_put labels k l le low high are.rise; within = all_put (λ m. m < label_limit) labels k l fits are.within }

-- ---- a label goes

rise_removed : (labels : List ℕ) (k : ℕ) → Rise labels → Rise (remove labels k)
rise_removed [] zero rise = tt
rise_removed [] (suc k) rise = tt
rise_removed (m ∷ labels) zero rise = rise.1
rise_removed (m ∷ labels) (suc k) rise = (all_removed (λ j. m < j) labels k rise.0, rise_removed labels k rise.1)

pub labels_removed : (labels : List ℕ) (k : ℕ) → AreLabels labels → AreLabels (remove labels k)
labels_removed labels k are = record { rise = rise_removed labels k are.rise; within = all_removed (λ m. m < label_limit) labels k are.within }
