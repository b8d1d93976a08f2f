-- Going through a list page by page.
use Rattle.std.proofs.Common.{◌≡◌, ℕ, ◌+◌, ◌-◌, ◌≤◌, ◌<◌, List, length, take, ap, arith}
use Rattle.bib_pages.specs.Pages.{joined, page_at, IsPlace, IsGap, IsOnWay}
use Rattle.bib_pages.proofs.Paging.{joined-past, length-joined-more}

pub on_way_more : {X : Type 0} (pages : List (List X)) (p n left len : ℕ) → p < length pages → len ≡ length (page_at pages p) → len ≤ left → IsOnWay pages p n left → IsOnWay pages (p + 1) n (left - len)
on_way_more pages p n left len h e low w =
    let at : n ≡ length (joined (take p pages)) + left = w.at in
    record { at = omega (arith, length-joined-more pages p h) }

pub on_way_place : {X : Type 0} (pages : List (List X)) (p n left len : ℕ) → p < length pages → len ≡ length (page_at pages p) → left < len → IsOnWay pages p n left → IsPlace pages n p left
on_way_place pages p n left len h e low w = record { page = h; within = omega arith; at = w.at }

pub on_way_gap : {X : Type 0} (pages : List (List X)) (p n left len : ℕ) → p < length pages → len ≡ length (page_at pages p) → left < len → IsOnWay pages p n left → IsGap pages n p left
on_way_gap pages p n left len h e low w = record { page = h; within = omega arith; at = w.at }

pub on_way_end : {X : Type 0} (pages : List (List X)) (p n left : ℕ) → length pages ≤ p → IsOnWay pages p n left → length (joined pages) ≤ n
on_way_end {X} pages p n left h w =
    let at : n ≡ length (joined (take p pages)) + left = w.at in
    let all : length (joined (take p pages)) ≡ length (joined pages) = ap (length {A = X}) (joined-past pages p h) in
    omega arith
