-- Whole pages that come and go.
use Rattle.bib_items.proofs.Words.{◌≡◌, ℕ, ◌+◌, ◌-◌, ◌≤◌, ◌<◌, List, [], ◌∷◌, ◌++◌, length, take, drop, sym, subst, ◌∙◌, ap, ap₂, arith, take-append-drop, take_at, drop_at, drop-drop, length-take-le, joined, page_at, IsPlace, parted_at, all_append, all_front, all_back, joined-append, joined-past}
use Rattle.bib_items.proofs.Words.{length-joined-more, are_parted, IsPage, ArePages, IsSeam}
use Rattle.std.proofs.Common.{append-nil, length-append, length-drop}
use Rattle.bib_items.proofs.PageSizes.{around}

-- ---- the members before a seam, and those after it

pub around_seam : {X : Type 0} (pages : List (List X)) (p : ℕ) → joined pages ≡ joined (take p pages) ++ joined (drop p pages)
around_seam pages p = ap joined (sym (take-append-drop p pages)) ∙ joined-append (take p pages) (drop p pages)

pub before_seam : {X : Type 0} (pages : List (List X)) (n p : ℕ) → length (joined (take p pages)) ≡ n → take n (joined pages) ≡ joined (take p pages)
before_seam pages n p at = ap (take n) (around_seam pages p) ∙ take_at (joined (take p pages)) (joined (drop p pages)) n at

pub after_seam : {X : Type 0} (pages : List (List X)) (n p : ℕ) → length (joined (take p pages)) ≡ n → drop n (joined pages) ≡ joined (drop p pages)
after_seam pages n p at = ap (drop n) (around_seam pages p) ∙ drop_at (joined (take p pages)) (joined (drop p pages)) n at

-- ---- pages before and after

pub first_pages : {X : Type 0} (pages : List (List X)) (p : ℕ) → ArePages pages → ArePages (take p pages)
first_pages pages p all = all_front IsPage (take p pages) (drop p pages) (subst ArePages (sym (take-append-drop p pages)) all)

pub last_pages : {X : Type 0} (pages : List (List X)) (p : ℕ) → ArePages pages → ArePages (drop p pages)
last_pages pages p all = all_back IsPage (take p pages) (drop p pages) (subst ArePages (sym (take-append-drop p pages)) all)

-- ---- a seam is made

pub seam_at_end : {X : Type 0} (pages : List (List X)) (n : ℕ) → n ≡ length (joined pages) → IsSeam pages n (length pages)
seam_at_end {X} pages n e = record { within = omega arith; at = ap (length {A = X}) (joined-past pages (length pages) (omega arith)) ∙ sym e }

pub seam_at_page : {X : Type 0} (pages : List (List X)) (n p k : ℕ) → IsPlace pages n p k → k ≡ 0 → IsSeam pages n p
seam_at_page pages n p k place none =
    let h : p < length pages = place.page in
    let at : n ≡ length (joined (take p pages)) + k = place.at in
    record { within = omega arith; at = omega arith }

pub seam_in_page : {X : Type 0} (pages : List (List X)) (n p k : ℕ) → IsPlace pages n p k → IsSeam (parted_at k p pages) n (p + 1)
seam_in_page {X} pages n p k place =
    let two = are_parted pages p k place.page in
    let low : k < length (page_at pages p) = place.within in
    let at : n ≡ length (joined (take p pages)) + k = place.at in
    let before : length (joined (take (p + 1) (parted_at k p pages))) ≡ length (joined (take p pages)) + k
    = ap (λ l. length (joined l)) two.before_second
    ∙ ap (length {A = X}) (joined-append (take p pages) (take k (page_at pages p) ∷ []) ∙ ap (λ l. joined (take p pages) ++ l) (append-nil (take k (page_at pages p))))
    ∙ length-append (joined (take p pages)) (take k (page_at pages p))
    ∙ ap (λ (m : ℕ). length (joined (take p pages)) + m) (length-take-le k (page_at pages p) (omega arith)) in
    record { within = omega (arith, two.within); at = omega arith }

pub pages_in_two : {X : Type 0} (pages : List (List X)) (n p k : ℕ) → ArePages pages → IsPlace pages n p k → 0 < k → ArePages (parted_at k p pages)
pages_in_two pages n p k all place some =
    let r = around pages p all place.page in
    let page = page_at pages p in
    let low : k < length page = place.within in
    let within : length page ≤ 64 = r.page.within in
    let front : length (take k page) ≡ k = length-take-le k page (omega arith) in
    let back = length-drop k page in
    let first : IsPage (take k page) = record { some = omega arith; within = omega arith } in
    let second : IsPage (drop k page) = record { some = omega arith; within = omega arith } in
    all_append IsPage (take p pages) (take k page ∷ (drop k page ∷ _)) r.before (first, (second, r.after))

-- ---- pages are put at a seam

pub joined-put : {X : Type 0} (pages new : List (List X)) (n p : ℕ) → IsSeam pages n p → joined (take p pages ++ (new ++ drop p pages)) ≡ take n (joined pages) ++ (joined new ++ drop n (joined pages))
joined-put pages new n p seam =
    joined-append (take p pages) (new ++ drop p pages)
    ∙ ap₂ ◌++◌ (sym (before_seam pages n p seam.at)) (joined-append new (drop p pages) ∙ ap (λ l. joined new ++ l) (sym (after_seam pages n p seam.at)))

pub pages_put : {X : Type 0} (pages new : List (List X)) (p : ℕ) → ArePages pages → ArePages new → ArePages (take p pages ++ (new ++ drop p pages))
pages_put pages new p all is =
    all_append IsPage (take p pages) (new ++ drop p pages) (first_pages pages p all) (all_append IsPage new (drop p pages) is (last_pages pages p all))

-- ---- pages are taken from seam to seam

pub joined-taken : {X : Type 0} (pages : List (List X)) (n m p q : ℕ) → length (joined (take p pages)) ≡ n → length (joined (take q pages)) ≡ m
    → joined (take p pages ++ drop q pages) ≡ take n (joined pages) ++ drop m (joined pages)
joined-taken pages n m p q a b =
    joined-append (take p pages) (drop q pages) ∙ ap₂ ◌++◌ (sym (before_seam pages n p a)) (sym (after_seam pages m q b))

pub pages_taken : {X : Type 0} (pages : List (List X)) (p q : ℕ) → ArePages pages → ArePages (take p pages ++ drop q pages)
pages_taken pages p q all = all_append IsPage (take p pages) (drop q pages) (first_pages pages p all) (last_pages pages q all)

-- the pages from number p up to number q have `items` members, which are at most `most`
pub record ArePassed {X : Type 0} (pages : List (List X)) (p q items most : ℕ) : Type 0 where
  pub ordered : p ≤ q
  pub within : q ≤ length pages
  pub most_is : items ≤ most
  pub count : length (joined (take p pages)) + items ≡ length (joined (take q pages))

pub passed_none : {X : Type 0} (pages : List (List X)) (p most : ℕ) → p ≤ length pages → ArePassed pages p p 0 most
passed_none pages p most h = record { ordered = omega arith; within = h; most_is = omega arith; count = omega arith }

pub passed_more : {X : Type 0} (pages : List (List X)) (p q items most len : ℕ) → q < length pages → len ≡ length (page_at pages q) → len ≤ most - items
    → ArePassed pages p q items most → ArePassed pages p (q + 1) (items + len) most
passed_more pages p q items most len h e low w =
    let ordered : p ≤ q = w.ordered in
    let few : items ≤ most = w.most_is in
    let count : length (joined (take p pages)) + items ≡ length (joined (take q pages)) = w.count in
    record { ordered = omega arith; within = omega arith; most_is = omega arith; count = omega (arith, length-joined-more pages q h) }

-- ---- some go after others

-- of the members from `from` up to `to`, only the last `left` are still there
pub record IsCutTo {X : Type 0} (old now : List X) (from to left : ℕ) : Type 0 where
  pub fits : left + from ≤ to
  pub cut : now ≡ take from old ++ drop (to - left) old

pub cut_start : {X : Type 0} (old : List X) (from to : ℕ) → from ≤ to → IsCutTo old old from to (to - from)
cut_start old from to h =
    let all : to - (to - from) ≡ from = omega arith in
    record { fits = omega arith; cut = sym (take-append-drop from old) ∙ ap (λ (m : ℕ). take from old ++ drop m old) (sym all) }

pub cut_len : {X : Type 0} (old now : List X) (from to left : ℕ) → to ≤ length old → IsCutTo old now from to left → from + left ≤ length now
cut_len {X} old now from to left h w =
    let fits : left + from ≤ to = w.fits in
    omega (arith, ap (length {A = X}) w.cut, length-append (take from old) (drop (to - left) old), length-take-le from old (omega arith), length-drop (to - left) old)

pub cut_more : {X : Type 0} (old now new : List X) (from to left gone : ℕ) → to ≤ length old → gone ≤ left → IsCutTo old now from to left → new ≡ take from now ++ drop (from + gone) now
    → IsCutTo old new from to (left - gone)
cut_more {X} old now new from to left gone h low w e =
    let fits : left + from ≤ to = w.fits in
    let long : length (take from old) ≡ from = length-take-le from old (omega arith) in
    let rest : List X = drop (to - left) old in
    let next : to - left + gone ≡ to - (left - gone) = omega arith in
    record {
      fits = omega arith;
      cut = e
          ∙ ap (λ (l : List X). take from l ++ drop (from + gone) l) w.cut
          ∙ ap₂ ◌++◌ (take_at (take from old) rest from long)
          (sym (drop-drop gone from (take from old ++ rest)) ∙ ap (drop gone) (drop_at (take from old) rest from long) ∙ drop-drop gone (to - left) old ∙ ap (λ (m : ℕ). drop m old) next);
    }

pub cut_whole : {X : Type 0} (old now : List X) (from to left : ℕ) → left ≡ 0 → IsCutTo old now from to left → now ≡ take from old ++ drop to old
cut_whole old now from to left none w =
    let all : to - left ≡ to = omega arith in
    w.cut ∙ ap (λ (m : ℕ). take from old ++ drop m old) all
