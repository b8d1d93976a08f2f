-- Members that are moved, in one list and in pages.
use Rattle.bib_numbers.proofs.Words.{◌≡◌, ℕ, zero, suc, ◌+◌, ◌-◌, ◌%◌, ◌≤◌, ◌<◌, ◌^◌, List, [], ◌∷◌, ◌++◌, length, map, take, drop, get_or, set, insert, remove, sym, subst, ◌∙◌, ap, ap₂, refl, arith, length-append, zero-add, take-map, IsPartitionedBy, IsPartitionPoint, length-map, joined, page_at}
use Rattle.bib_numbers.proofs.Words.{plus, moved_from, shifted}
use Rattle.std.proofs.Common.{Bool, true, false}
use Rattle.std.specs.List.{drop-map}
use Rattle.std.proofs.lemmas.List.{map-append, get_or-map}

-- ---- one after another

-- the members before place i are moved as all will be
abbrev pub moved_so_far : {X : Type 0} → (X → X) → ℕ → ℕ → List X → List X
moved_so_far move i from members = take i (moved_from move from members) ++ drop i members

module _ {X : Type 0} (move : X → X) where
  pub moved_none : (from : ℕ) (members : List X) → members ≡ moved_so_far move from from members
  moved_none zero members = refl
  moved_none (suc from) [] = refl
  moved_none (suc from) (m ∷ members) = ap (λ (l : List X). m ∷ l) (moved_none from members)

  pub moved_read : (i from : ℕ) (d : X) (members : List X) → get_or (moved_so_far move i from members) i d ≡ get_or members i d
  moved_read zero from d members = refl
  moved_read (suc i) zero d [] = refl
  moved_read (suc i) (suc from) d [] = refl
  moved_read (suc i) zero d (m ∷ members) = moved_read i zero d members
  moved_read (suc i) (suc from) d (m ∷ members) = moved_read i from d members

  pub moved_more : (i from : ℕ) (d : X) (members : List X) → from ≤ i → i < length members → set (moved_so_far move i from members) i (move (get_or members i d)) ≡ moved_so_far move (suc i) from members
  moved_more i from d [] h lt = absurd (omega (arith, lt))
  moved_more zero zero d (m ∷ members) h lt = refl
  moved_more zero (suc from) d (m ∷ members) h lt = absurd (omega (arith, h))
  moved_more (suc i) zero d (m ∷ members) h lt = ap (λ (l : List X). move m ∷ l) (moved_more i zero d members (omega arith) (omega (arith, lt)))
  moved_more (suc i) (suc from) d (m ∷ members) h lt = ap (λ (l : List X). m ∷ l) (moved_more i from d members (omega (arith, h)) (omega (arith, lt)))

  pub moved_all : (i from : ℕ) (members : List X) → length members ≤ i → moved_so_far move i from members ≡ moved_from move from members
  moved_all zero zero [] h = refl
  moved_all zero (suc from) [] h = refl
  moved_all (suc i) zero [] h = refl
  moved_all (suc i) (suc from) [] h = refl
  moved_all zero from (m ∷ members) h = absurd (omega (arith, h))
  moved_all (suc i) zero (m ∷ members) h = ap (λ (l : List X). move m ∷ l) (moved_all i zero members (omega (arith, h)))
  moved_all (suc i) (suc from) (m ∷ members) h = ap (λ (l : List X). m ∷ l) (moved_all i from members (omega (arith, h)))

  pub length-moved_from : (k : ℕ) (members : List X) → length (moved_from move k members) ≡ length members
  length-moved_from zero [] = refl
  length-moved_from (suc k) [] = refl
  length-moved_from zero (m ∷ members) = ap suc (length-moved_from zero members)
  length-moved_from (suc k) (m ∷ members) = ap suc (length-moved_from k members)

  -- from a place past the end on, none is moved
  pub moved_past : (k : ℕ) (members : List X) → length members ≤ k → moved_from move k members ≡ members
  moved_past zero [] h = refl
  moved_past (suc k) [] h = refl
  moved_past zero (m ∷ members) h = absurd (omega (arith, h))
  moved_past (suc k) (m ∷ members) h = ap (λ (l : List X). m ∷ l) (moved_past k members (omega (arith, h)))

  -- a list and what comes after it
  moved_first : (k : ℕ) (first rest : List X) → k ≤ length first → moved_from move k (first ++ rest) ≡ moved_from move k first ++ map move rest
  moved_first zero first rest h = map-append move first rest
  moved_first (suc k) [] rest h = absurd (omega (arith, h))
  moved_first (suc k) (m ∷ first) rest h = ap (λ (l : List X). m ∷ l) (moved_first k first rest (omega (arith, h)))

  moved_later : (first rest : List X) (k : ℕ) → moved_from move (length first + k) (first ++ rest) ≡ first ++ moved_from move k rest
  moved_later [] rest k = ap (λ (j : ℕ). moved_from move j rest) (zero-add k)
  moved_later (m ∷ first) rest k =
      let e : suc (length first) + k ≡ suc (length first + k) = omega arith in
      ap (λ (j : ℕ). moved_from move j (m ∷ (first ++ rest))) e ∙ ap (λ (l : List X). m ∷ l) (moved_later first rest k)

  joined-map : (pages : List (List X)) → joined (map (map move) pages) ≡ map move (joined pages)
  joined-map [] = refl
  joined-map (page ∷ pages) = ap (λ (l : List X). map move page ++ l) (joined-map pages) ∙ sym (map-append move page (joined pages))

  -- the pages are shifted as the list is
  pub joined-shifted : (pages : List (List X)) (p k : ℕ) → p < length pages → k ≤ length (page_at pages p) → joined (shifted move p k pages) ≡ moved_from move (length (joined (take p pages)) + k) (joined pages)
  joined-shifted [] p k h le = absurd (omega (arith, h))
  joined-shifted (page ∷ pages) zero k h le =
      ap (λ (l : List X). moved_from move k page ++ l) (joined-map pages)
      ∙ sym (moved_first k page (joined pages) le)
      ∙ ap (λ (j : ℕ). moved_from move j (page ++ joined pages)) (sym (zero-add k))
  joined-shifted (page ∷ pages) (suc p) k h le =
      let e : length page + (length (joined (take p pages)) + k) ≡ length (page ++ joined (take p pages)) + k = omega (arith, length-append page (joined (take p pages))) in
      ap (λ (l : List X). page ++ l) (joined-shifted pages p k (omega (arith, h)) le)
      ∙ sym (moved_later page (joined pages) (length (joined (take p pages)) + k))
      ∙ ap (λ (j : ℕ). moved_from move j (page ++ joined pages)) e

  -- one page is shifted from a place on, and then those after it
  pub shifted_by : (pages : List (List X)) (p k : ℕ) → p < length pages → moved_from (map move) (p + 1) (set pages p (moved_from move k (page_at pages p))) ≡ shifted move p k pages
  shifted_by [] p k h = absurd (omega (arith, h))
  shifted_by (page ∷ pages) zero k h = refl
  shifted_by (page ∷ pages) (suc p) k h =
      let e : suc p + 1 ≡ suc (p + 1) = omega arith in
      ap (λ (j : ℕ). moved_from (map move) j (page ∷ set pages p (moved_from move k (page_at pages p)))) e
      ∙ ap (λ (l : List (List X)). page ∷ l) (shifted_by pages p k (omega (arith, h)))

-- ---- what a page shows

plus-twice : (base step m : ℕ) → plus ((base + step) % 2 ^ 64) m ≡ plus step (plus base m)
plus-twice base step m = omega arith

pub map-plus : (base step : ℕ) (l : List ℕ) → map (plus ((base + step) % 2 ^ 64)) l ≡ map (plus step) (map (plus base) l)
map-plus base step [] = refl
map-plus base step (m ∷ l) = ap₂ (λ (n : ℕ) (rest : List ℕ). n ∷ rest) (plus-twice base step m) (map-plus base step l)

plus-swap : (base step m : ℕ) → plus base (plus step m) ≡ plus step (plus base m)
plus-swap base step m = omega arith

pub map-moved : (base step k : ℕ) (l : List ℕ) → map (plus base) (moved_from (plus step) k l) ≡ moved_from (plus step) k (map (plus base) l)
map-moved base step zero l = each l
  where
    each : (l : List ℕ) → map (plus base) (map (plus step) l) ≡ map (plus step) (map (plus base) l)
    each [] = refl
    each (m ∷ l) = ap₂ (λ (n : ℕ) (rest : List ℕ). n ∷ rest) (plus-swap base step m) (each l)
map-moved base step (suc k) [] = refl
map-moved base step (suc k) (m ∷ l) = ap (λ (rest : List ℕ). plus base m ∷ rest) (map-moved base step k l)

pub plus-back : (base n : ℕ) → base < 2 ^ 64 → n < 2 ^ 64 → plus base ((n + (2 ^ 64 - base)) % 2 ^ 64) ≡ n
plus-back base n b h = omega (arith, b, h)

pub map-insert : (f : ℕ → ℕ) (l : List ℕ) (k m : ℕ) → map f (insert l k m) ≡ insert (map f l) k (f m)
map-insert f l k m = map-append f (take k l) (m ∷ drop k l) ∙ ap₂ (λ (a b : List ℕ). a ++ f m ∷ b) (sym (take-map f k l)) (sym (drop-map f k l))

pub map-remove : (f : ℕ → ℕ) (l : List ℕ) (k : ℕ) → map f (remove l k) ≡ remove (map f l) k
map-remove f l k = map-append f (take k l) (drop (suc k) l) ∙ ap₂ (λ (a b : List ℕ). a ++ b) (sym (take-map f k l)) (sym (drop-map f (suc k) l))

-- a search of what is kept finds what is shown
pub parted_shown : (test : ℕ → Bool) (f : ℕ → ℕ) (l : List ℕ) → IsPartitionedBy test (map f l) → IsPartitionedBy (λ m. test (f m)) l
parted_shown test f l parted i j d le lt is =
    let first = get_or-map f l i d (f d) (omega (arith, le, lt)) in
    let second = get_or-map f l j d (f d) lt in
    subst (λ (m : ℕ). test m ≡ true) first (parted i j (f d) le (omega (arith, lt, length-map l f)) (subst (λ (m : ℕ). test m ≡ true) (sym second) is))

pub point_shown : (test : ℕ → Bool) (f : ℕ → ℕ) (l : List ℕ) (k : ℕ) → k ≤ length l
    → IsPartitionPoint (λ m. test (f m) ≡ true) (λ m. test (f m) ≡ false) l k → IsPartitionPoint (λ m. test m ≡ true) (λ m. test m ≡ false) (map f l) k
point_shown test f l k h point = (
  (λ i d low lt. subst (λ (m : ℕ). test m ≡ true) (sym (get_or-map f l i 0 d (omega (arith, h, lt)))) (point.0 i 0 low lt)),
  (λ i d low lt. let within : i < length l = omega (arith, lt, length-map l f) in subst (λ (m : ℕ). test m ≡ false) (sym (get_or-map f l i 0 d within)) (point.1 i 0 low within)),
)

-- ---- written back

-- a slice that is as long as the whole list replaces the whole list
pub written : {X : Type 0} (len : ℕ) (old new : List X) → len ≡ length old → length new ≡ length old → take len (new ++ drop (length new) old) ≡ new
written {X} len old new is same =
    ap₂ (λ (n : ℕ) (l : List X). take n (new ++ l)) (is ∙ sym same) (ap (λ (n : ℕ). drop n old) same ∙ rest_gone old) ∙ whole new
  where
    rest_gone : (l : List X) → drop (length l) l ≡ []
    rest_gone [] = refl
    rest_gone (m ∷ l) = rest_gone l

    whole : (l : List X) → take (length l) (l ++ []) ≡ l
    whole [] = refl
    whole (m ∷ l) = ap (λ (rest : List X). m ∷ rest) (whole l)

-- numbers moved in place, if the slice is the whole list
pub written_moved : (move : ℕ → ℕ) (len k : ℕ) (old slice new : List ℕ) → len ≡ length old → slice ≡ old → new ≡ moved_from move k slice → take len (new ++ drop (length new) old) ≡ moved_from move k old
written_moved move len k old slice new is same moved =
    let now : new ≡ moved_from move k old = moved ∙ ap (moved_from move k) same in
    written len old new is (ap (length {A = ℕ}) now ∙ length-moved_from move k old) ∙ now

-- and pages
pub written_shifted : (move : ℕ → ℕ) (len p k : ℕ) (old slice new : List (List ℕ)) → len ≡ length old → slice ≡ old → new ≡ shifted move p k slice → take len (new ++ drop (length new) old) ≡ shifted move p k old
written_shifted move len p k old slice new is same moved =
    let now : new ≡ shifted move p k old = moved ∙ ap (shifted move p k) same in
    written len old new is (ap (length {A = List ℕ}) now ∙ length-shifted old p) ∙ now
  where
    length-mapped : (pages : List (List ℕ)) → length (map (map move) pages) ≡ length pages
    length-mapped pages = length-map pages (map move)

    length-shifted : (pages : List (List ℕ)) (p : ℕ) → length (shifted move p k pages) ≡ length pages
    length-shifted [] p = refl
    length-shifted (page ∷ pages) zero = ap suc (length-mapped pages)
    length-shifted (page ∷ pages) (suc p) = ap suc (length-shifted pages p)
