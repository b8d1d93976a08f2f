use Rattle.bib_order.proofs.Words.{◌≡◌, ◌<◌, ◌∙◌, ◌+◌, ℕ, List, [], length, ap, sym, arith, slice_get, get_or_read, page_at, length-joined-more}
use Rattle.bib_pages.proofs.Paging.{length-joined-take}
use Rattle.bib_order.proofs.Ordering.{searched_found}
use Rattle.bib_order.proofs.sheets.seek.Goals as goal

pub overflow_add-result : goal.overflow_add-result
overflow_add-result c =
    let inside : c.pass.p < length c.args.sheets.now = omega (arith, c.pass-test.true) in
    let seen : c.ids.result.now ≡ page_at c.args.sheets.now c.pass.p
    = c.ids.ensures ∙ get_or_read c.args.sheets.now c.pass.p c.index-sheets-p-then-is_meant.result inside c.index-sheets-p-then-is_meant.is [] in
    let here = ap (λ (l : List ℕ). slice_get l c.in-Some.k) (sym seen) ∙ c.in-Some.ensures.found in
    let is = searched_found c.args.sheets.now c.args.name c.args.id c.pass.p c.pass.before c.in-Some.k inside here c.pass.invariant in
    omega (arith, is.within, c.requires)

pub returns-in-Some-clause-found : goal.returns-in-Some-clause-found
returns-in-Some-clause-found c =
    let inside : c.pass.p < length c.args.sheets.now = omega (arith, c.pass-test.true) in
    let seen : c.ids.result.now ≡ page_at c.args.sheets.now c.pass.p
    = c.ids.ensures ∙ get_or_read c.args.sheets.now c.pass.p c.index-sheets-p-then-is_meant.result inside c.index-sheets-p-then-is_meant.is [] in
    let here = ap (λ (l : List ℕ). slice_get l c.in-Some.k) (sym seen) ∙ c.in-Some.ensures.found in
    let is = searched_found c.args.sheets.now c.args.name c.args.id c.pass.p c.pass.before c.in-Some.k inside here c.pass.invariant in
    is.found

pub overflow_add-before : goal.overflow_add-before
overflow_add-before c =
    let inside : c.pass.p < length c.args.sheets.now = omega (arith, c.pass-test.true) in
    let len : c.len-before.result ≡ length (page_at c.args.sheets.now c.pass.p)
    = c.len-before.ensures ∙ ap (length {A = ℕ}) (get_or_read c.args.sheets.now c.pass.p c.index-sheets-p-in-pass.result inside c.index-sheets-p-in-pass.is []) in
    omega (arith, c.pass.invariant.before_is, length-joined-more c.args.sheets.now c.pass.p inside, length-joined-take c.args.sheets.now (c.pass.p + 1), c.requires)
