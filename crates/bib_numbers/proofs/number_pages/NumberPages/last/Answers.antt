use Rattle.bib_numbers.proofs.Words.{◌≡◌, ◌-◌, ◌∙◌, ℕ, List, [], Some, length, ap, sym, subst, arith, option_copied, slice_get_within, get_or_from_slice_get, joined, page_at, IsPlace}
use Rattle.std.proofs.Common.{slice_get}
use Rattle.bib_numbers.proofs.FilledPages.{get_at, last_gap}
use Rattle.bib_numbers.proofs.number_pages.NumberPages.last.Goals as goal

pub returns-clause-last : goal.returns-clause-last
returns-clause-last c =
    let pages : List (List ℕ) = c.self.inside.leaves.items in
    let p : ℕ = length pages - 1 in
    let leaf : List ℕ = c.in_ok-leaf.leaf.now in
    let there : slice_get pages p ≡ Some leaf = subst (λ (l : List (List ℕ)). slice_get l (length l - 1) ≡ Some leaf) c.deref.ensures.value (sym c.last.ensures.value ∙ ap option_copied c.in_ok-leaf.was) in
    let inside = slice_get_within pages p leaf there in
    let seen : page_at pages p ≡ leaf = get_or_from_slice_get pages p leaf [] there in
    let some = slice_get_within leaf (c.len.result - 1) c.get.result c.get.ensures in
    let len : length (page_at pages p) ≡ length leaf = ap (length {A = ℕ}) seen in
    let gap = last_gap pages p (omega (arith, inside)) in
    let place : IsPlace pages (length (joined pages) - 1) p (c.len.result - 1) = record { page = inside; within = omega (arith, len, some); at = omega (arith, gap.at, len, some, c.len.ensures) } in
    ap (λ (l : List ℕ). slice_get l (length l - 1)) (sym c.self.view_is)
    ∙ get_at pages (length (joined pages) - 1) p (c.len.result - 1) place
    ∙ ap (λ (l : List ℕ). slice_get l (c.len.result - 1)) seen
    ∙ c.get.ensures
