-- Pages that have a member and are not too long.
use Rattle.bib_items.proofs.Words.{◌≡◌, ◌≢◌, ℕ, ◌+◌, ◌-◌, ◌≤◌, ◌<◌, suc, List, ◌∷◌, length, take, drop, set, insert, remove, sym, subst, ap, ◌∙◌, arith, length-take-le, page_at, IsGap, parted_at, all_append, all_front, all_back, are_parted, page_limit, IsPage, ArePages, IsRoom}
use Rattle.std.proofs.Common.{length-drop}
use Rattle.std.proofs.lemmas.List.{set_split}
use Rattle.std.proofs.lemmas.List.Edits.{length-insert, length-remove}
use Rattle.bib_pages.proofs.Paging.{split_pages, gap_before, gap_after}

pub record IsAround {X : Type 0} (pages : List (List X)) (p : ℕ) : Type 0 where
  pub before : ArePages (take p pages)
  pub page : IsPage (page_at pages p)
  pub after : ArePages (drop (suc p) pages)

pub around : {X : Type 0} (pages : List (List X)) (p : ℕ) → ArePages pages → p < length pages → IsAround pages p
around pages p all h =
    let whole = subst ArePages (split_pages pages p h) all in
    let after = all_back IsPage (take p pages) (page_at pages p ∷ drop (suc p) pages) whole in
    record { before = all_front IsPage (take p pages) (page_at pages p ∷ drop (suc p) pages) whole; page = after.0; after = after.1 }

pub pages_set : {X : Type 0} (pages : List (List X)) (p : ℕ) (q : List X) → ArePages pages → p < length pages → IsPage q → ArePages (set pages p q)
pages_set pages p q all h is =
    let r = around pages p all h in
    subst ArePages (sym (set_split pages p q h)) (all_append IsPage (take p pages) (q ∷ drop (suc p) pages) r.before (is, r.after))

pub pages_remove : {X : Type 0} (pages : List (List X)) (p : ℕ) → ArePages pages → p < length pages → ArePages (remove pages p)
pages_remove pages p all h =
    let r = around pages p all h in
    all_append IsPage (take p pages) (drop (suc p) pages) r.before r.after

-- a member more in a page, and one less
pub page_insert : {X : Type 0} (page : List X) (k : ℕ) (x : X) → k ≤ length page → length page < page_limit → IsPage (insert page k x)
page_insert page k x h room = let e = length-insert page k x h in record { some = omega arith; within = omega arith }

pub page_remove : {X : Type 0} (page : List X) (k : ℕ) → k < length page → IsPage page → length page ≢ 1 → IsPage (remove page k)
page_remove page k h is other =
    let e = length-remove page k h in
    let within : length page ≤ 64 = is.within in
    record { some = omega arith; within = omega arith }

-- ---- a page that becomes two

pub pages_parted : {X : Type 0} (pages : List (List X)) (p : ℕ) → ArePages pages → p < length pages → 64 ≤ length (page_at pages p) → ArePages (parted_at 32 p pages)
pages_parted pages p all h full =
    let r = around pages p all h in
    let page = page_at pages p in
    let within : length page ≤ 64 = r.page.within in
    let front : length (take 32 page) ≡ 32 = length-take-le 32 page (omega arith) in
    let back = length-drop 32 page in
    let first : IsPage (take 32 page) = record { some = omega arith; within = omega arith } in
    let second : IsPage (drop 32 page) = record { some = omega arith; within = omega arith } in
    all_append IsPage (take p pages) (take 32 page ∷ (drop 32 page ∷ drop (suc p) pages)) r.before (first, (second, r.after))

-- there is room before the seam, and after it
pub room_before : {X : Type 0} (pages : List (List X)) (n p k : ℕ) → 64 ≤ length (page_at pages p) → IsGap pages n p k → k ≤ 32 → IsRoom (parted_at 32 p pages) n p k
room_before {X} pages n p k full gap low =
    let len : length (page_at (parted_at 32 p pages) p) ≡ 32 = ap (length {A = X}) (are_parted pages p 32 gap.page).first ∙ length-take-le 32 (page_at pages p) (omega arith) in
    record { gap = gap_before pages n p k 32 (omega arith) gap low; room = omega arith }

pub room_after : {X : Type 0} (pages : List (List X)) (n p k : ℕ) → ArePages pages → 64 ≤ length (page_at pages p) → IsGap pages n p k → 32 < k → IsRoom (parted_at 32 p pages) n (p + 1) (k - 32)
room_after {X} pages n p k all full gap high =
    let is_page : IsPage (page_at pages p) = (around pages p all gap.page).page in
    let small : length (page_at pages p) ≤ 64 = is_page.within in
    let len : length (page_at (parted_at 32 p pages) (p + 1)) ≡ length (page_at pages p) - 32 = ap (length {A = X}) (are_parted pages p 32 gap.page).second ∙ length-drop 32 (page_at pages p) in
    record { gap = gap_after pages n p k 32 (omega arith) gap high; room = omega arith }

pub room_here : {X : Type 0} (pages : List (List X)) (n p k : ℕ) → IsGap pages n p k → length (page_at pages p) < 64 → IsRoom pages n p k
room_here pages n p k gap low = record { gap = gap; room = low }
