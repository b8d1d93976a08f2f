-- The page in which the numbers reach a number.
use Rattle.bib_numbers.proofs.Words.{◌≡◌, ℕ, zero, suc, ◌+◌, ◌-◌, ◌≤◌, ◌<◌, List, [], ◌∷◌, ◌++◌, length, take, drop, get_or, sym, subst, ◌∙◌, ap, arith, append_assoc, AllByRecursion, IsPartitionedBy, IsPartitionPoint, lt-ltb, ltb-true, get_or_default, joined, page_at, joined-past, Ascend, rank_in}
use Rattle.bib_numbers.proofs.Words.{AreFilled, ends_below}
use Rattle.std.proofs.Common.{true, false, append-nil}
use Rattle.std.proofs.lemmas.Bool.{ltb-false}
use Rattle.bib_pages.proofs.Paging.{joined-split, joined-more}
use Rattle.bib_numbers.proofs.FilledPages.{around}
use Rattle.bib_numbers.proofs.MovedNumbers.{ascend_parts, rank-append, rank_all, rank_none}

last_later : (m j : ℕ) (page : List ℕ) → get_or (m ∷ j ∷ page) (length (m ∷ j ∷ page) - 1) 0 ≡ get_or (j ∷ page) (length (j ∷ page) - 1) 0
last_later m j page = let e : suc (suc (length page)) - 1 ≡ suc (suc (length page) - 1) = omega arith in ap (λ (k : ℕ). get_or (m ∷ j ∷ page) k 0) e

-- if the last of ascending numbers is below n, all are
all_below : (n : ℕ) (first page : List ℕ) → Ascend (first ++ page) → 1 ≤ length page → get_or page (length page - 1) 0 < n → AllByRecursion (λ m. m < n) (first ++ page)
all_below n [] page ascend some low = each page ascend low
  where
    each : (page : List ℕ) → Ascend page → get_or page (length page - 1) 0 < n → AllByRecursion (λ m. m < n) page
    each [] ascend low = tt
    each (m ∷ []) ascend low = (low, tt)
    each (m ∷ j ∷ page) ascend low =
        let later = each (j ∷ page) ascend.1 (subst (λ (k : ℕ). k < n) (last_later m j page) low) in
        let le : m ≤ j = ascend.0.0 in
        let lt : j < n = later.0 in
        (omega (arith, le, lt), later)
all_below n (m ∷ []) [] ascend some low = absurd (omega (arith, some))
all_below n (m ∷ []) (j ∷ page) ascend some low =
    let later = all_below n [] (j ∷ page) ascend.1 some low in
    let le : m ≤ j = ascend.0.0 in
    let lt : j < n = later.0 in
    (omega (arith, le, lt), later)
all_below n (m ∷ j ∷ first) page ascend some low =
    let later = all_below n (j ∷ first) page ascend.1 some low in
    let le : m ≤ j = ascend.0.0 in
    let lt : j < n = later.0 in
    (omega (arith, le, lt), later)

-- if the last number of a page is not below n, no number after it is
all_above : (n : ℕ) (page rest : List ℕ) → Ascend (page ++ rest) → 1 ≤ length page → n ≤ get_or page (length page - 1) 0 → AllByRecursion (λ m. n ≤ m) rest
all_above n [] rest ascend some high = absurd (omega (arith, some))
all_above n (m ∷ []) rest ascend some high = each rest ascend.0
  where
    each : (rest : List ℕ) → AllByRecursion (λ k. m ≤ k) rest → AllByRecursion (λ k. n ≤ k) rest
    each [] all = tt
    each (k ∷ rest) all = (let le = all.0 in omega (arith, high, le), each rest all.1)
all_above n (m ∷ j ∷ page) rest ascend some high = all_above n (j ∷ page) rest ascend.1 (omega arith) (subst (λ (k : ℕ). n ≤ k) (last_later m j page) high)

module _ (n : ℕ) (pages : List (List ℕ)) (ascend : Ascend (joined pages)) (filled : AreFilled pages) where
  -- up to a page that ends below n, all numbers are below it
  below_page : (p : ℕ) → p < length pages → ends_below n (page_at pages p) ≡ true → AllByRecursion (λ m. m < n) (joined (take p pages) ++ page_at pages p)
  below_page p h is =
      let whole = subst Ascend (joined-split pages p h) ascend in
      let first = ascend_first (joined (take p pages)) (page_at pages p) (joined (drop (suc p) pages)) whole in
      all_below n (joined (take p pages)) (page_at pages p) first (around pages p filled h).page (ltb-true (get_or (page_at pages p) (length (page_at pages p) - 1) 0) n is)
    where
      ascend_first : (a b c : List ℕ) → Ascend (a ++ (b ++ c)) → Ascend (a ++ b)
      ascend_first a b c up = (ascend_parts (a ++ b) c (subst Ascend (sym (append_assoc a b c)) up)).0

  -- if the last page ends below n, all numbers are below it
  pub rank_last : (p : ℕ) → p + 1 ≡ length pages → ends_below n (page_at pages p) ≡ true → length (joined pages) ≡ rank_in n (joined pages)
  rank_last p last is =
      let h : p < length pages = omega (arith, last) in
      let whole = sym (joined-more pages p h) ∙ joined-past pages (p + 1) (omega (arith, last)) in
      sym (rank_all n (joined pages) (subst (AllByRecursion (λ m. m < n)) whole (below_page p h is)))

  -- after a page that does not, none is
  above_page : (p : ℕ) → p < length pages → ends_below n (page_at pages p) ≡ false → AllByRecursion (λ m. n ≤ m) (joined (drop (suc p) pages))
  above_page p h is =
      let whole = subst Ascend (joined-split pages p h) ascend in
      let later = (ascend_parts (joined (take p pages)) (page_at pages p ++ joined (drop (suc p) pages)) whole).1 in
      all_above n (page_at pages p) (joined (drop (suc p) pages)) later (around pages p filled h).page (ltb-false (get_or (page_at pages p) (length (page_at pages p) - 1) 0) n is)

  -- the pages that end below n come first
  pub pages_parted : IsPartitionedBy (ends_below n) pages
  pages_parted i j d le lt is =
      let inside : i < length pages = omega (arith, le, lt) in
      let there = below_page j lt (subst (λ (l : List ℕ). ends_below n l ≡ true) (read j d lt) is) in
      subst (λ (l : List ℕ). ends_below n l ≡ true) (sym (read i d inside)) (lt-ltb (get_or (page_at pages i) (length (page_at pages i) - 1) 0) n (in_page pages i j le lt filled there))
    where
      read : (i : ℕ) (d : List ℕ) → i < length pages → get_or pages i d ≡ page_at pages i
      read i d h = get_or_default pages i d [] h

      last_of : (page rest : List ℕ) → 1 ≤ length page → AllByRecursion (λ m. m < n) (page ++ rest) → get_or page (length page - 1) 0 < n
      last_of [] rest some all = absurd (omega (arith, some))
      last_of (m ∷ []) rest some all = all.0
      last_of (m ∷ j ∷ page) rest some all = subst (λ (k : ℕ). k < n) (sym (last_later m j page)) (last_of (j ∷ page) rest (omega arith) all.1)

      after_first : (page rest : List ℕ) → AllByRecursion (λ m. m < n) (page ++ rest) → AllByRecursion (λ m. m < n) rest
      after_first [] rest all = all
      after_first (m ∷ page) rest all = after_first page rest all.1

      in_page : (pages : List (List ℕ)) (i j : ℕ) → i ≤ j → j < length pages → AreFilled pages → AllByRecursion (λ m. m < n) (joined (take j pages) ++ page_at pages j) → get_or (page_at pages i) (length (page_at pages i) - 1) 0 < n
      in_page [] i j le lt filled all = absurd (omega (arith, lt))
      in_page (page ∷ pages) zero zero le lt filled all = last_of page [] filled.0 (subst (AllByRecursion (λ m. m < n)) (sym (append-nil page)) all)
      in_page (page ∷ pages) zero (suc j) le lt filled all = last_of page (joined (take j pages) ++ page_at pages j) filled.0 (subst (AllByRecursion (λ m. m < n)) (append_assoc page (joined (take j pages)) (page_at pages j)) all)
      in_page (page ∷ pages) (suc i) zero le lt filled all = absurd (omega (arith, le))
      in_page (page ∷ pages) (suc i) (suc j) le lt filled all =
          in_page pages i j (omega (arith, le)) (omega (arith, lt)) filled.1 (after_first page (joined (take j pages) ++ page_at pages j) (subst (AllByRecursion (λ m. m < n)) (append_assoc page (joined (take j pages)) (page_at pages j)) all))

  module _ (p : ℕ) (within : p ≤ length pages) (point : IsPartitionPoint (λ page. ends_below n page ≡ true) (λ page. ends_below n page ≡ false) pages p) where
    -- all numbers of the pages before it are below n
    before_point : AllByRecursion (λ m. m < n) (joined (take p pages))
    before_point = up_to p within (λ i h. point.0 i [] (omega arith) h)
      where
        up_to : (p : ℕ) → p ≤ length pages → ((i : ℕ) → i < p → ends_below n (page_at pages i) ≡ true) → AllByRecursion (λ m. m < n) (joined (take p pages))
        up_to zero h low = none pages
          where
            none : (pages : List (List ℕ)) → AllByRecursion (λ m. m < n) (joined (take 0 pages))
            none [] = tt
            none (page ∷ pages) = tt
        up_to (suc q) h low =
            let e : q + 1 ≡ suc q = omega arith in
            subst (AllByRecursion (λ m. m < n)) (sym (joined-more pages q (omega (arith, h))) ∙ ap (λ (j : ℕ). joined (take j pages)) e) (below_page q (omega (arith, h)) (low q (omega arith)))

    -- if it is past the last page, all are below n
    pub rank_past : length pages ≤ p → length (joined pages) ≡ rank_in n (joined pages)
    rank_past h = sym (rank_all n (joined pages) (subst (AllByRecursion (λ m. m < n)) (joined-past pages p h) before_point))

    pub page_ascends : p < length pages → Ascend (page_at pages p)
    page_ascends h =
        let whole = subst Ascend (joined-split pages p h) ascend in
        (ascend_parts (page_at pages p) (joined (drop (suc p) pages)) (ascend_parts (joined (take p pages)) (page_at pages p ++ joined (drop (suc p) pages)) whole).1).0

    -- the numbers below n are those of the pages before page p, and some in page p
    pub rank_at : p < length pages → length (joined (take p pages)) + rank_in n (page_at pages p) ≡ rank_in n (joined pages)
    rank_at h =
        let high = above_page p h (point.1 p [] (omega arith) h) in
        let all = rank_all n (joined (take p pages)) before_point in
        let none = rank_none n (joined (drop (suc p) pages)) high in
        let whole = ap (rank_in n) (joined-split pages p h) ∙ rank-append n (joined (take p pages)) (page_at pages p ++ joined (drop (suc p) pages)) in
        let later = rank-append n (page_at pages p) (joined (drop (suc p) pages)) in
        omega (arith, all, none, whole, later)
