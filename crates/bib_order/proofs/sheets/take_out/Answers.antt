use Rattle.bib_order.proofs.Words.{◌≡◌, ◌∙◌, ℕ, List, [], length, set, remove, ap, arith, get_or_read, joined, page_at}
use Rattle.bib_pages.proofs.Paging.{remove_at, remove_page}
use Rattle.bib_order.proofs.sheets.take_out.Goals as goal

pub returns-then-len-eq1 : goal.returns-then-len-eq1
returns-then-len-eq1 c n place =
    let seen : c.index.result.now ≡ page_at c.args.sheets.now.items c.args.p = get_or_read c.args.sheets.now.items c.args.p c.index.result.now place.page c.index.ensures [] in
    let one : length (page_at c.args.sheets.now.items c.args.p) ≡ 1 = omega (arith, c.len.ensures, c.if-len-eq1.true, ap (length {A = ℕ}) seen) in
    ap joined c.remove.ensures.items ∙ remove_page c.args.sheets.now.items n c.args.p c.args.k place one

pub returns-else-len-eq1 : goal.returns-else-len-eq1
returns-else-len-eq1 c n place =
    let seen : c.index_mut-sheet.result.now ≡ page_at c.args.sheets.now.items c.args.p
    = get_or_read c.args.sheets.now.items c.args.p c.index_mut-sheet.result.now place.page c.index_mut-sheet.ensures.value [] in
    ap (λ (q : List ℕ). joined (set c.args.sheets.now.items c.args.p q)) (c.remove-else-len-eq1.ensures ∙ ap (λ (l : List ℕ). remove l c.args.k) seen)
    ∙ remove_at c.args.sheets.now.items n c.args.p c.args.k place
