-- Numbers in order, when one comes or goes and those after it are moved.
use Rattle.bib_numbers.proofs.Words.{◌≡◌, ℕ, zero, suc, ◌+◌, ◌-◌, ◌≤◌, ◌<◌, ◌^◌, List, [], ◌∷◌, ◌++◌, length, map, take, drop, get_or, insert, remove, sym, subst, ◌∙◌, ap, ap₂, refl, arith, length-append, append_assoc, zero-add, AllByRecursion, all_append, all_back, IsPartitionedBy}
use Rattle.bib_numbers.proofs.Words.{IsPartitionPoint, lt-ltb, ltb-true, Ascend, rank_in, PartAt, HasParts, HaveNext, plus, moved_from}
use Rattle.std.proofs.Common.{⊎_elim}
use Rattle.std.specs.Prelude.{◌≢◌, nat_lt, max, true, false, Bool, cond, filter}
use Rattle.std.proofs.lemmas.Bool.{cases_lt, le-ltb, both_ways}

-- ---- parts

pub taken_front : (front rest : List ℕ) → take (length front) (front ++ rest) ≡ front
taken_front [] rest = refl
taken_front (m ∷ front) rest = ap (λ (l : List ℕ). m ∷ l) (taken_front front rest)

pub dropped_front : (front rest : List ℕ) → drop (length front) (front ++ rest) ≡ rest
dropped_front [] rest = refl
dropped_front (m ∷ front) rest = dropped_front front rest

-- numbers after a front are moved
pub moved_rest : (move : ℕ → ℕ) (front rest : List ℕ) → moved_from move (length front) (front ++ rest) ≡ front ++ map move rest
moved_rest move front rest = ap₂ (λ (a b : List ℕ). a ++ map move b) (taken_front front rest) (dropped_front front rest)

-- the number before it, if there is one
abbrev pub lowered : ℕ → ℕ
lowered m = m - 1

pub map-lowered : (numbers : List ℕ) → map lowered (map suc numbers) ≡ numbers
map-lowered [] = refl
map-lowered (m ∷ numbers) = ap₂ (λ (n : ℕ) (l : List ℕ). n ∷ l) (back m) (map-lowered numbers)
  where
    back : (m : ℕ) → lowered (suc m) ≡ m
    back m = omega arith

-- ---- where the front ends

below_at : (n d : ℕ) (front rest : List ℕ) (i : ℕ) → AllByRecursion (λ m. m < n) front → i < length front → get_or (front ++ rest) i d < n
below_at n d [] rest i below h = absurd (omega (arith, h))
below_at n d (m ∷ front) rest zero below h = below.0
below_at n d (m ∷ front) rest (suc i) below h = below_at n d front rest i below.1 (omega (arith, h))

above_at : (n d : ℕ) (rest : List ℕ) (i : ℕ) → AllByRecursion (λ m. n ≤ m) rest → i < length rest → n ≤ get_or rest i d
above_at n d [] i above h = absurd (omega (arith, h))
above_at n d (m ∷ rest) zero above h = above.0
above_at n d (m ∷ rest) (suc i) above h = above_at n d rest i above.1 (omega (arith, h))

after_at : (n d : ℕ) (front rest : List ℕ) (i : ℕ) → AllByRecursion (λ m. n ≤ m) rest → length front ≤ i → i < length (front ++ rest) → n ≤ get_or (front ++ rest) i d
after_at n d [] rest i above h lt = above_at n d rest i above lt
after_at n d (m ∷ front) rest zero above h lt = absurd (omega (arith, h))
after_at n d (m ∷ front) rest (suc i) above h lt = after_at n d front rest i above (omega (arith, h)) (omega (arith, lt))

pub parted : (n : ℕ) (front rest numbers : List ℕ) → PartAt n front rest numbers → IsPartitionedBy (λ m. nat_lt m n) numbers
parted n front rest numbers p i j d le lt low = ⊎_elim
    (λ in_front. lt-ltb (get_or numbers i d) n (subst (λ (l : List ℕ). get_or l i d < n) (sym p.whole) (below_at n d front rest i p.below (omega (arith, le, in_front)))))
    (λ after.
    let high : n ≤ get_or numbers j d = subst (λ (l : List ℕ). n ≤ get_or l j d) (sym p.whole) (after_at n d front rest j p.above after (subst (λ (l : List ℕ). j < length l) p.whole lt)) in
    let lower = ltb-true (get_or numbers j d) n low in
    absurd (omega (arith, high, lower)))
    (cases_lt j (length front))

pub front_ends : (n k : ℕ) (front rest numbers : List ℕ) → PartAt n front rest numbers → k ≤ length numbers
    → IsPartitionPoint (λ m. nat_lt m n ≡ true) (λ m. nat_lt m n ≡ false) numbers k → k ≡ length front
front_ends n k front rest numbers p within point =
    let long = ap (length {A = ℕ}) p.whole ∙ length-append front rest in
    ⊎_elim
    (λ (lt : k < length front).
    let low : get_or numbers k 0 < n = subst (λ (l : List ℕ). get_or l k 0 < n) (sym p.whole) (below_at n 0 front rest k p.below lt) in
    absurd (both_ways (nat_lt (get_or numbers k 0) n) (point.1 k 0 (omega arith) (omega (arith, lt, long))) (lt-ltb (get_or numbers k 0) n low)))
    (λ (ge : length front ≤ k). ⊎_elim
    (λ (gt : length front < k).
    let inside : length front < length numbers = omega (arith, gt, within) in
    let high : n ≤ get_or numbers (length front) 0 = subst (λ (l : List ℕ). n ≤ get_or l (length front) 0) (sym p.whole)
    (after_at n 0 front rest (length front) p.above (omega arith) (subst (λ (l : List ℕ). length front < length l) p.whole inside)) in
    let low = ltb-true (get_or numbers (length front) 0) n (point.0 (length front) 0 (omega arith) gt) in
    absurd (omega (arith, high, low)))
    (λ (le : k ≤ length front). omega (arith, ge, le))
    (cases_lt (length front) k))
    (cases_lt k (length front))

-- ---- a number comes or goes

above_next : (n : ℕ) (rest : List ℕ) → AllByRecursion (λ m. n ≤ m) rest → AllByRecursion (λ m. n ≤ m) (map suc rest)
above_next n [] above = tt
above_next n (m ∷ rest) above = (omega (arith, above.0), above_next n rest above.1)

-- the numbers before n are the same before and after
pub part_gap : (n : ℕ) (front rest now : List ℕ) → PartAt n front rest (front ++ rest) → now ≡ front ++ map suc rest → PartAt n front (map suc rest) now
part_gap n front rest now p is = record { whole = is; below = p.below; above = above_next n rest p.above }

pub part_with : (n : ℕ) (front rest now : List ℕ) → PartAt n front rest (front ++ rest) → now ≡ front ++ n ∷ map suc rest → PartAt n front (n ∷ map suc rest) now
part_with n front rest now p is = record { whole = is; below = p.below; above = (omega arith, above_next n rest p.above) }

pub put_number : (n k : ℕ) (front rest numbers : List ℕ) → PartAt n front rest numbers → k ≡ length front → moved_from suc (k + 1) (insert numbers k n) ≡ front ++ n ∷ map suc rest
put_number n k front rest numbers p is =
    let one : k + 1 ≡ length (front ++ n ∷ []) = omega (arith, is, length-append front (n ∷ [])) in
    let put : insert numbers k n ≡ (front ++ n ∷ []) ++ rest
    = ap₂ (λ (l : List ℕ) (j : ℕ). insert l j n) p.whole is ∙ ap₂ (λ (a b : List ℕ). a ++ n ∷ b) (taken_front front rest) (dropped_front front rest) ∙ sym (append_assoc front (n ∷ []) rest) in
    ap₂ (λ (j : ℕ) (l : List ℕ). moved_from suc j l) one put ∙ moved_rest suc (front ++ n ∷ []) rest ∙ append_assoc front (n ∷ []) (map suc rest)

pub taken_number : (n k : ℕ) (front rest now : List ℕ) → now ≡ front ++ n ∷ rest → k ≡ length front → remove now k ≡ front ++ rest
taken_number n k front rest now is at =
    ap₂ (λ (l : List ℕ) (j : ℕ). remove l j) is at ∙ ap₂ (λ (a b : List ℕ). a ++ b) (taken_front front (n ∷ rest)) (past front)
  where
    past : (front : List ℕ) → drop (suc (length front)) (front ++ n ∷ rest) ≡ rest
    past [] = refl
    past (m ∷ front) = past front

-- a number that comes and goes leaves what was there
pub put_back : (n : ℕ) (old now back : List ℕ) → HasParts n old → HaveNext old → ((front rest : List ℕ) → PartAt n front rest old → HaveNext rest → now ≡ front ++ n ∷ map suc rest)
    → ((front rest : List ℕ) → PartAt n front rest (front ++ rest) → HaveNext rest → now ≡ front ++ n ∷ map suc rest → back ≡ front ++ rest) → back ≡ old
put_back n old now back p fit put taken =
    let next = all_back (λ m. m + 1 < 2 ^ 64) p.front p.rest (subst HaveNext p.are.whole fit) in
    taken p.front p.rest (record { whole = refl; below = p.are.below; above = p.are.above }) next (put p.front p.rest p.are next) ∙ sym p.are.whole

-- ---- the order

pub parted_at : (n : ℕ) (numbers : List ℕ) → Ascend numbers → HasParts n numbers
parted_at n [] ascend = record { front = []; rest = []; are = record { whole = refl; below = tt; above = tt } }
parted_at n (m ∷ numbers) ascend = ⊎_elim
    (λ (low : m < n).
    let p = parted_at n numbers ascend.1 in
    record { front = m ∷ p.front; rest = p.rest; are = record { whole = ap (λ (l : List ℕ). m ∷ l) p.are.whole; below = (low, p.are.below); above = p.are.above } })
    (λ (high : n ≤ m). record { front = []; rest = m ∷ numbers; are = record { whole = refl; below = tt; above = (high, above_more numbers m high ascend.0) } })
    (cases_lt m n)
  where
    above_more : (numbers : List ℕ) (m : ℕ) → n ≤ m → AllByRecursion (λ k. m ≤ k) numbers → AllByRecursion (λ k. n ≤ k) numbers
    above_more [] m high all = tt
    above_more (k ∷ numbers) m high all = (let le = all.0 in omega (arith, high, le), above_more numbers m high all.1)

-- ---- how many are below

rank_first : (n m : ℕ) (numbers : List ℕ) → rank_in n (m ∷ numbers) ≡ cond (nat_lt m n) (suc (rank_in n numbers)) (rank_in n numbers)
rank_first n m numbers = along (nat_lt m n)
  where
    along : (b : Bool) → length (cond b (m ∷ filter (λ m. nat_lt m n) numbers) (filter (λ m. nat_lt m n) numbers)) ≡ cond b (suc (rank_in n numbers)) (rank_in n numbers)
    along true = refl
    along false = refl

pub rank_none : (n : ℕ) (rest : List ℕ) → AllByRecursion (λ m. n ≤ m) rest → rank_in n rest ≡ 0
rank_none n [] above = refl
rank_none n (m ∷ rest) above = rank_first n m rest ∙ ap (λ (b : Bool). cond b (suc (rank_in n rest)) (rank_in n rest)) (le-ltb m n above.0) ∙ rank_none n rest above.1

pub rank_within : (n : ℕ) (numbers : List ℕ) → rank_in n numbers ≤ length numbers
rank_within n [] = omega arith
rank_within n (m ∷ numbers) = subst (λ (k : ℕ). k ≤ suc (length numbers)) (sym (rank_first n m numbers)) (either (nat_lt m n) (rank_within n numbers))
  where
    either : (b : Bool) → rank_in n numbers ≤ length numbers → cond b (suc (rank_in n numbers)) (rank_in n numbers) ≤ suc (length numbers)
    either true le = omega (arith, le)
    either false le = omega (arith, le)

pub rank-append : (n : ℕ) (a b : List ℕ) → rank_in n (a ++ b) ≡ rank_in n a + rank_in n b
rank-append n [] b = sym (zero-add (rank_in n b))
rank-append n (m ∷ a) b = rank_first n m (a ++ b) ∙ along (nat_lt m n) (rank-append n a b) ∙ ap (λ (k : ℕ). k + rank_in n b) (sym (rank_first n m a))
  where
    along : (c : Bool) → rank_in n (a ++ b) ≡ rank_in n a + rank_in n b → cond c (suc (rank_in n (a ++ b))) (rank_in n (a ++ b)) ≡ cond c (suc (rank_in n a)) (rank_in n a) + rank_in n b
    along true e = omega (arith, e)
    along false e = e

pub rank_all : (n : ℕ) (front : List ℕ) → AllByRecursion (λ m. m < n) front → rank_in n front ≡ length front
rank_all n [] below = refl
rank_all n (m ∷ front) below = rank_first n m front ∙ ap (λ (b : Bool). cond b (suc (rank_in n front)) (rank_in n front)) (lt-ltb m n below.0) ∙ ap suc (rank_all n front below.1)

-- the numbers below n are those of the front
pub rank_of : (n : ℕ) (front rest numbers : List ℕ) → PartAt n front rest numbers → rank_in n numbers ≡ length front
rank_of n front rest numbers p =
    let all = rank_all n front p.below in
    let none = rank_none n rest p.above in
    let sum = ap (rank_in n) p.whole ∙ rank-append n front rest in
    omega (arith, all, none, sum)

-- if numbers from n on make way, those up to n have as many below them as they had
pub rank_before_gap : (n j : ℕ) (front rest : List ℕ) → AllByRecursion (λ m. n ≤ m) rest → j ≤ n → rank_in j (front ++ map suc rest) ≡ rank_in j (front ++ rest)
rank_before_gap n j [] rest above le = rank_none j (map suc rest) (higher rest above) ∙ sym (rank_none j rest (high rest above))
  where
    high : (rest : List ℕ) → AllByRecursion (λ m. n ≤ m) rest → AllByRecursion (λ m. j ≤ m) rest
    high [] all = tt
    high (m ∷ rest) all = (let low = all.0 in omega (arith, le, low), high rest all.1)

    higher : (rest : List ℕ) → AllByRecursion (λ m. n ≤ m) rest → AllByRecursion (λ m. j ≤ m) (map suc rest)
    higher [] all = tt
    higher (m ∷ rest) all = (let low = all.0 in omega (arith, le, low), higher rest all.1)
rank_before_gap n j (m ∷ front) rest above le =
    rank_first j m (front ++ map suc rest) ∙ ap (λ (k : ℕ). cond (nat_lt m j) (suc k) k) (rank_before_gap n j front rest above le) ∙ sym (rank_first j m (front ++ rest))

-- and those from n on have as many below them as they had
pub rank_past_gap : (n j : ℕ) (front rest : List ℕ) → AllByRecursion (λ m. m < n) front → n ≤ j → rank_in (suc j) (front ++ map suc rest) ≡ rank_in j (front ++ rest)
rank_past_gap n j front rest below le =
    rank-append (suc j) front (map suc rest) ∙ ap₂ (λ (a b : ℕ). a + b) (rank_all (suc j) front (lower front below (suc j) (omega arith)) ∙ sym (rank_all j front (lower front below j (omega arith)))) (up rest) ∙ sym (rank-append j front rest)
  where
    lower : (front : List ℕ) → AllByRecursion (λ m. m < n) front → (k : ℕ) → j ≤ k → AllByRecursion (λ m. m < k) front
    lower [] all k far = tt
    lower (m ∷ front) all k far = (let lt = all.0 in omega (arith, lt, le, far), lower front all.1 k far)

    both : (m : ℕ) → nat_lt (suc m) (suc j) ≡ nat_lt m j
    both m = ⊎_elim (λ (lt : m < j). lt-ltb (suc m) (suc j) (omega (arith, lt)) ∙ sym (lt-ltb m j lt)) (λ (ge : j ≤ m). le-ltb (suc m) (suc j) (omega (arith, ge)) ∙ sym (le-ltb m j ge)) (cases_lt m j)

    up : (rest : List ℕ) → rank_in (suc j) (map suc rest) ≡ rank_in j rest
    up [] = refl
    up (m ∷ rest) = rank_first (suc j) (suc m) (map suc rest) ∙ ap₂ (λ (b : Bool) (k : ℕ). cond b (suc k) k) (both m) (up rest) ∙ sym (rank_first j m rest)

-- ---- the order, when numbers are moved

pub ascend_parts : (front rest : List ℕ) → Ascend (front ++ rest) → Ascend front × Ascend rest
ascend_parts [] rest ascend = (tt, ascend)
ascend_parts (m ∷ front) rest ascend = let parts = ascend_parts front rest ascend.1 in ((first front ascend.0, parts.0), parts.1)
  where
    first : (front : List ℕ) → AllByRecursion (λ k. m ≤ k) (front ++ rest) → AllByRecursion (λ k. m ≤ k) front
    first [] all = tt
    first (k ∷ front) all = (all.0, first front all.1)

-- numbers below n, and after them some that are at most one less than n
ascend_joined : (n : ℕ) (front rest : List ℕ) → Ascend front → AllByRecursion (λ m. m < n) front → Ascend rest → AllByRecursion (λ m. n ≤ m + 1) rest → Ascend (front ++ rest)
ascend_joined n [] rest ascend below later above = later
ascend_joined n (m ∷ front) rest ascend below later above = (least front ascend.0, ascend_joined n front rest ascend.1 below.1 later above)
  where
    high : (rest : List ℕ) → AllByRecursion (λ k. n ≤ k + 1) rest → AllByRecursion (λ k. m ≤ k) rest
    high [] all = tt
    high (k ∷ rest) all = (let le = all.0 in let lt = below.0 in omega (arith, le, lt), high rest all.1)

    least : (front : List ℕ) → AllByRecursion (λ k. m ≤ k) front → AllByRecursion (λ k. m ≤ k) (front ++ rest)
    least [] all = high rest above
    least (k ∷ front) all = (all.0, least front all.1)

-- a move that keeps the order
module _ (move : ℕ → ℕ) (keeps : (m k : ℕ) → m ≤ k → move m ≤ move k) where
  ascend_map : (numbers : List ℕ) → Ascend numbers → Ascend (map move numbers)
  ascend_map [] ascend = tt
  ascend_map (m ∷ numbers) ascend = (least numbers ascend.0, ascend_map numbers ascend.1)
    where
      least : (numbers : List ℕ) → AllByRecursion (λ k. m ≤ k) numbers → AllByRecursion (λ k. move m ≤ k) (map move numbers)
      least [] all = tt
      least (k ∷ numbers) all = (keeps m k all.0, least numbers all.1)

  -- the numbers from n on are moved, to n - 1 at the lowest
  pub ascend_moved : (n k : ℕ) (numbers : List ℕ) → Ascend numbers → ((front rest : List ℕ) → PartAt n front rest numbers → k ≡ length front) → ((m : ℕ) → n ≤ m → n ≤ move m + 1)
      → Ascend (moved_from move k numbers)
  ascend_moved n k numbers ascend ends low =
      let p = parted_at n numbers ascend in
      let parts = ascend_parts p.front p.rest (subst Ascend p.are.whole ascend) in
      subst Ascend (sym (moved_rest move p.front p.rest) ∙ ap₂ (λ (j : ℕ) (l : List ℕ). moved_from move j l) (sym (ends p.front p.rest p.are)) (sym p.are.whole))
      (ascend_joined n p.front (map move p.rest) parts.0 p.are.below (ascend_map p.rest parts.1) (lowest p.rest p.are.above))
    where
      lowest : (rest : List ℕ) → AllByRecursion (λ m. n ≤ m) rest → AllByRecursion (λ m. n ≤ m + 1) (map move rest)
      lowest [] above = tt
      lowest (m ∷ rest) above = (low m above.0, lowest rest above.1)

-- those from n on, moved, are not below n
above_raised : (n : ℕ) (rest : List ℕ) → AllByRecursion (λ m. n ≤ m) rest → AllByRecursion (λ m. n ≤ m) (map suc rest)
above_raised n [] above = tt
above_raised n (m ∷ rest) above = (let le = above.0 in omega (arith, le), above_raised n rest above.1)

module _ (n k : ℕ) (numbers : List ℕ) (ascend : Ascend numbers) (is : k ≡ rank_in n numbers) where
  -- the first k numbers are those below n
  pub ends : (front rest : List ℕ) → PartAt n front rest numbers → k ≡ length front
  ends front rest p = is ∙ rank_of n front rest numbers p

  pub ascend_raised : Ascend (moved_from suc k numbers)
  ascend_raised = ascend_moved suc (λ m j le. omega (arith, le)) n k numbers ascend ends (λ m le. omega (arith, le))

  pub ascend_lowered : Ascend (moved_from lowered k numbers)
  ascend_lowered = ascend_moved lowered (λ m j le. omega (arith, le)) n k numbers ascend ends (λ m le. omega (arith, le))

  pub rank_raised : rank_in n (moved_from suc k numbers) ≡ rank_in n numbers
  rank_raised =
      let p = parted_at n numbers ascend in
      let now = ap₂ (λ (j : ℕ) (l : List ℕ). moved_from suc j l) (ends p.front p.rest p.are) p.are.whole ∙ moved_rest suc p.front p.rest in
      rank_of n p.front (map suc p.rest) (moved_from suc k numbers) (record { whole = now; below = p.are.below; above = above_raised n p.rest p.are.above })
      ∙ sym (rank_of n p.front p.rest numbers p.are)

  pub ascend_put : Ascend (moved_from suc (k + 1) (insert numbers k n))
  ascend_put =
      let p = parted_at n numbers ascend in
      let parts = ascend_parts p.front p.rest (subst Ascend p.are.whole ascend) in
      let above = above_raised n p.rest p.are.above in
      subst Ascend (sym (put_number n k p.front p.rest numbers p.are (ends p.front p.rest p.are)))
      (ascend_joined n p.front (n ∷ map suc p.rest) parts.0 p.are.below (above, ascend_map suc (λ m j le. omega (arith, le)) p.rest parts.1) (omega arith, higher (map suc p.rest) above))
    where
      higher : (l : List ℕ) → AllByRecursion (λ m. n ≤ m) l → AllByRecursion (λ m. n ≤ m + 1) l
      higher [] all = tt
      higher (m ∷ l) all = (let le = all.0 in omega (arith, le), higher l all.1)

  -- the numbers from there on are not below n
  pub above_rank : AllByRecursion (λ m. n ≤ m) (drop k numbers)
  above_rank =
      let p = parted_at n numbers ascend in
      subst (AllByRecursion (λ m. n ≤ m)) (sym (dropped_front p.front p.rest) ∙ ap₂ (λ (j : ℕ) (l : List ℕ). drop j l) (sym (ends p.front p.rest p.are)) (sym p.are.whole)) p.are.above

-- what holds of all holds of all but one
pub all_removed : (P : ℕ → Type 0) (numbers : List ℕ) (k : ℕ) → AllByRecursion P numbers → AllByRecursion P (remove numbers k)
all_removed P [] zero all = tt
all_removed P [] (suc k) all = tt
all_removed P (j ∷ numbers) zero all = all.1
all_removed P (j ∷ numbers) (suc k) all = (all.0, all_removed P numbers k all.1)

pub ascend_removed : (k : ℕ) (numbers : List ℕ) → Ascend numbers → Ascend (remove numbers k)
ascend_removed zero [] ascend = tt
ascend_removed (suc k) [] ascend = tt
ascend_removed zero (m ∷ numbers) ascend = ascend.1
ascend_removed (suc k) (m ∷ numbers) ascend = (all_removed (λ j. m ≤ j) numbers k ascend.0, ascend_removed k numbers ascend.1)

-- ---- as a machine counts

-- no number is greater than the last
pub below_last : (numbers : List ℕ) (k last : ℕ) → Ascend numbers → k + 1 ≡ length numbers → last ≡ get_or numbers k 0 → AllByRecursion (λ m. m ≤ last) numbers
below_last [] k last ascend h is = tt
below_last (m ∷ []) zero last ascend h is = (omega (arith, is), tt)
below_last (m ∷ []) (suc k) last ascend h is = absurd (omega (arith, h))
below_last (m ∷ j ∷ numbers) zero last ascend h is = absurd (omega (arith, h))
below_last (m ∷ j ∷ numbers) (suc k) last ascend h is =
    let later = below_last (j ∷ numbers) k last ascend.1 (omega (arith, h)) is in
    let low : m ≤ j = ascend.0.0 in
    let high : j ≤ last = later.0 in
    (omega (arith, low, high), later)

pub at_most : (numbers : List ℕ) (last top : ℕ) → last < top → AllByRecursion (λ m. m ≤ last) numbers → AllByRecursion (λ m. m < top) numbers
at_most [] last top h all = tt
at_most (m ∷ numbers) last top h all = (let le = all.0 in omega (arith, h, le), at_most numbers last top h all.1)

pub have_next : (numbers : List ℕ) (last : ℕ) → last + 1 < 2 ^ 64 → AllByRecursion (λ m. m ≤ last) numbers → HaveNext numbers
have_next [] last h all = tt
have_next (m ∷ numbers) last h all = (let le = all.0 in omega (arith, h, le), have_next numbers last h all.1)

-- the last number has a successor if the rest do
pub next_of_last : (n : ℕ) (front rest numbers : List ℕ) (k last : ℕ) → PartAt n front rest numbers → HaveNext rest → n ≤ last → k + 1 ≡ length numbers → last ≡ get_or numbers k 0 → last + 1 < 2 ^ 64
next_of_last n front rest numbers k last p fit le h is = along front rest k p.below fit (h ∙ ap (length {A = ℕ}) p.whole) (is ∙ ap (λ (l : List ℕ). get_or l k 0) p.whole)
  where
    along : (front rest : List ℕ) (k : ℕ) → AllByRecursion (λ m. m < n) front → HaveNext rest → k + 1 ≡ length (front ++ rest) → last ≡ get_or (front ++ rest) k 0 → last + 1 < 2 ^ 64
    along [] [] k below fit h is = absurd (omega (arith, h))
    along [] (m ∷ []) zero below fit h is = let next = fit.0 in omega (arith, is, next)
    along [] (m ∷ []) (suc k) below fit h is = absurd (omega (arith, h))
    along [] (m ∷ j ∷ rest) zero below fit h is = absurd (omega (arith, h))
    along [] (m ∷ j ∷ rest) (suc k) below fit h is = along [] (j ∷ rest) k tt fit.1 (omega (arith, h)) is
    along (m ∷ []) [] zero below fit h is = let low = below.0 in absurd (omega (arith, is, low, le))
    along (m ∷ front) rest (suc k) below fit h is = along front rest k below.1 fit (omega (arith, h)) is
    along (m ∷ j ∷ front) rest zero below fit h is = absurd (omega (arith, h))
    along (m ∷ []) (j ∷ rest) zero below fit h is = absurd (omega (arith, h))

-- one more, and one less
pub plus_one : (numbers : List ℕ) (k : ℕ) → HaveNext (drop k numbers) → moved_from (plus 1) k numbers ≡ moved_from suc k numbers
plus_one numbers k fit = ap (λ (l : List ℕ). take k numbers ++ l) (each (drop k numbers) fit)
  where
    next : (m : ℕ) → m + 1 < 2 ^ 64 → plus 1 m ≡ suc m
    next m h = omega (arith, h)

    each : (l : List ℕ) → HaveNext l → map (plus 1) l ≡ map suc l
    each [] fit = refl
    each (m ∷ l) fit = ap₂ (λ (n : ℕ) (rest : List ℕ). n ∷ rest) (next m fit.0) (each l fit.1)

pub less_one : (n : ℕ) (numbers : List ℕ) (k : ℕ) → 1 ≤ n → AllByRecursion (λ m. n ≤ m) (drop k numbers) → AllByRecursion (λ m. m < 2 ^ 64) numbers → moved_from (plus (2 ^ 64 - 1)) k numbers ≡ moved_from lowered k numbers
less_one n numbers k some above fit = ap (λ (l : List ℕ). take k numbers ++ l) (each (drop k numbers) above (dropped k numbers fit))
  where
    back : (m : ℕ) → n ≤ m → m < 2 ^ 64 → plus (2 ^ 64 - 1) m ≡ lowered m
    back m le lt = omega (arith, some, le, lt)

    each : (l : List ℕ) → AllByRecursion (λ m. n ≤ m) l → AllByRecursion (λ m. m < 2 ^ 64) l → map (plus (2 ^ 64 - 1)) l ≡ map lowered l
    each [] above fit = refl
    each (m ∷ l) above fit = ap₂ (λ (j : ℕ) (rest : List ℕ). j ∷ rest) (back m above.0 fit.0) (each l above.1 fit.1)

    dropped : (k : ℕ) (l : List ℕ) → AllByRecursion (λ m. m < 2 ^ 64) l → AllByRecursion (λ m. m < 2 ^ 64) (drop k l)
    dropped zero l all = all
    dropped (suc k) [] all = tt
    dropped (suc k) (m ∷ l) all = dropped k l all.1

-- what all have, those from a place on have; and those from the next on of a list in which one is put there
pub rest_has : (P : ℕ → Type 0) (k : ℕ) (numbers : List ℕ) → AllByRecursion P numbers → AllByRecursion P (drop k numbers)
rest_has P zero numbers all = all
rest_has P (suc k) [] all = tt
rest_has P (suc k) (m ∷ numbers) all = rest_has P k numbers all.1

pub rest_put : (P : ℕ → Type 0) (k n : ℕ) (numbers : List ℕ) → k ≤ length numbers → AllByRecursion P numbers → AllByRecursion P (drop (k + 1) (insert numbers k n))
rest_put P zero n numbers h all = all
rest_put P (suc k) n [] h all = absurd (omega (arith, h))
rest_put P (suc k) n (m ∷ numbers) h all =
    let e : suc (k + 1) ≡ suc k + 1 = omega arith in
    subst (λ (j : ℕ). AllByRecursion P (drop j (insert (m ∷ numbers) (suc k) n))) e (rest_put P k n numbers (omega (arith, h)) all.1)

-- ---- the number itself

-- if the first number that is not below n is another, n is not among the numbers
pub absent : (n k : ℕ) (numbers : List ℕ) → Ascend numbers → k ≡ rank_in n numbers → (k < length numbers → get_or numbers k 0 ≢ n) → AllByRecursion (λ m. m ≢ n) numbers
absent n k numbers ascend is other =
    let p = parted_at n numbers ascend in
    let at = is ∙ rank_of n p.front p.rest numbers p.are in
    subst (AllByRecursion (λ m. m ≢ n)) (sym p.are.whole)
    (all_append (λ m. m ≢ n) p.front p.rest (low p.front p.are.below)
    (high p.front p.rest p.are.above (ascend_parts p.front p.rest (subst Ascend p.are.whole ascend)).1
    (subst (λ (l : List ℕ). length p.front < length l → get_or l (length p.front) 0 ≢ n) p.are.whole (subst (λ (j : ℕ). j < length numbers → get_or numbers j 0 ≢ n) at other))))
  where
    low : (l : List ℕ) → AllByRecursion (λ m. m < n) l → AllByRecursion (λ m. m ≢ n) l
    low [] all = tt
    low (m ∷ l) all = ((λ e. let lt = all.0 in absurd (omega (arith, lt, e))), low l all.1)

    later : (l : List ℕ) (m : ℕ) → n < m → AllByRecursion (λ j. m ≤ j) l → AllByRecursion (λ j. j ≢ n) l
    later [] m lt all = tt
    later (j ∷ l) m lt all = ((λ e. let le = all.0 in absurd (omega (arith, lt, le, e))), later l m lt all.1)

    seam : (front rest : List ℕ) (m : ℕ) → get_or (front ++ m ∷ rest) (length front) 0 ≡ m
    seam [] rest m = refl
    seam (j ∷ front) rest m = seam front rest m

    longer : (front rest : List ℕ) (m : ℕ) → length front < length (front ++ m ∷ rest)
    longer front rest m = omega (arith, length-append front (m ∷ rest))

    high : (front rest : List ℕ) → AllByRecursion (λ m. n ≤ m) rest → Ascend rest → (length front < length (front ++ rest) → get_or (front ++ rest) (length front) 0 ≢ n) → AllByRecursion (λ m. m ≢ n) rest
    high front [] above up other = tt
    high front (m ∷ rest) above up other =
        let differs : m ≢ n = λ is. other (longer front rest m) (seam front rest m ∙ is) in
        let le : n ≤ m = above.0 in
        let lt : n < m = ⊎_elim (λ (lt : n < m). lt) (λ (ge : m ≤ n). absurd (differs (omega (arith, le, ge)))) (cases_lt n m) in
        (differs, later rest m lt up.0)

-- the numbers after a gap, if zero is none of them
pub part_one : (n m : ℕ) (front rest now : List ℕ) → m ≡ max n 1 → PartAt n front rest (front ++ rest) → now ≡ front ++ map suc rest → PartAt m front (map suc rest) now
part_one n m front rest now e p is = record { whole = is; below = low front p.below; above = high rest p.above }
  where
    low : (l : List ℕ) → AllByRecursion (λ j. j < n) l → AllByRecursion (λ j. j < m) l
    low [] all = tt
    low (j ∷ l) all = (let lt = all.0 in omega (arith, lt, e), low l all.1)

    high : (l : List ℕ) → AllByRecursion (λ j. n ≤ j) l → AllByRecursion (λ j. m ≤ j) (map suc l)
    high [] all = tt
    high (j ∷ l) all = (let le = all.0 in omega (arith, le, e), high l all.1)
