use Rattle.bib_numbers.proofs.Words.{◌≡◌, ◌∙◌, ℕ, List, [], length, set, remove, ap, subst, sym, arith, get_or_read, length-set, joined, page_at, IsPlace, AreFilled}
use Rattle.std.proofs.lemmas.List.Edits.{length-remove}
use Rattle.bib_pages.proofs.Paging.{remove_at, remove_page}
use Rattle.bib_numbers.proofs.FilledPages.{length-starts, filled_remove, filled_set}
use Rattle.bib_numbers.proofs.leaves.take_away.Goals as goal

pub remove-requires-then-len-eq1 : goal.remove-requires-then-len-eq1
remove-requires-then-len-eq1 c =
    let place : IsPlace c.args.leaves.now.items c.args.k c.locate-p.result.0 c.locate-p.result.1 = subst (λ (l : List (List ℕ)). IsPlace l c.args.k c.locate-p.result.0 c.locate-p.result.1) c.deref.ensures.value c.locate-p.ensures in
    omega (arith, place.page, ap (length {A = ℕ}) c.requires.firsts, length-starts 0 c.args.leaves.now.items, c.args.firsts.now.ok.0)

pub returns-then-len-eq1-clause-list : goal.returns-then-len-eq1-clause-list
returns-then-len-eq1-clause-list c =
    let place : IsPlace c.args.leaves.now.items c.args.k c.locate-p.result.0 c.locate-p.result.1 = subst (λ (l : List (List ℕ)). IsPlace l c.args.k c.locate-p.result.0 c.locate-p.result.1) c.deref.ensures.value c.locate-p.ensures in
    let seen : c.index.result.now ≡ page_at c.args.leaves.now.items c.locate-p.result.0
    = get_or_read c.args.leaves.now.items c.locate-p.result.0 c.index.result.now place.page c.index.ensures [] in
    let one : length (page_at c.args.leaves.now.items c.locate-p.result.0) ≡ 1 = omega (arith, c.len.ensures, c.if-len-eq1.true, ap (length {A = ℕ}) seen) in
    ap joined c.remove.ensures.items ∙ remove_page c.args.leaves.now.items c.args.k c.locate-p.result.0 c.locate-p.result.1 place one

pub returns-then-len-eq1-clause-each : goal.returns-then-len-eq1-clause-each
returns-then-len-eq1-clause-each c =
    let place : IsPlace c.args.leaves.now.items c.args.k c.locate-p.result.0 c.locate-p.result.1 = subst (λ (l : List (List ℕ)). IsPlace l c.args.k c.locate-p.result.0 c.locate-p.result.1) c.deref.ensures.value c.locate-p.ensures in
    let p = c.locate-p.result.0 in
    let same = ap (length {A = ℕ}) c.requires.firsts ∙ length-starts 0 c.args.leaves.now.items in
    let pages = length-remove c.args.leaves.now.items p place.page in
    let firsts = length-remove c.args.firsts.now.items p (omega (arith, place.page, same)) in
    ap (length {A = ℕ}) c.remove-then-len-eq1.ensures.items ∙ omega (arith, pages, firsts, same) ∙ sym (ap (length {A = List ℕ}) c.remove.ensures.items)

pub returns-then-len-eq1-clause-filled : goal.returns-then-len-eq1-clause-filled
returns-then-len-eq1-clause-filled c =
    let place : IsPlace c.args.leaves.now.items c.args.k c.locate-p.result.0 c.locate-p.result.1 = subst (λ (l : List (List ℕ)). IsPlace l c.args.k c.locate-p.result.0 c.locate-p.result.1) c.deref.ensures.value c.locate-p.ensures in
    subst AreFilled (sym c.remove.ensures.items) (filled_remove c.args.leaves.now.items c.locate-p.result.0 c.requires.filled place.page)

pub returns-else-len-eq1-clause-list : goal.returns-else-len-eq1-clause-list
returns-else-len-eq1-clause-list c =
    let place : IsPlace c.args.leaves.now.items c.args.k c.locate-p.result.0 c.locate-p.result.1 = subst (λ (l : List (List ℕ)). IsPlace l c.args.k c.locate-p.result.0 c.locate-p.result.1) c.deref.ensures.value c.locate-p.ensures in
    let seen : c.index_mut-leaf.result.now ≡ page_at c.args.leaves.now.items c.locate-p.result.0
    = get_or_read c.args.leaves.now.items c.locate-p.result.0 c.index_mut-leaf.result.now place.page c.index_mut-leaf.ensures.value [] in
    ap (λ (q : List ℕ). joined (set c.args.leaves.now.items c.locate-p.result.0 q)) (c.remove-else-len-eq1.ensures ∙ ap (λ (l : List ℕ). remove l c.locate-p.result.1) seen)
    ∙ remove_at c.args.leaves.now.items c.args.k c.locate-p.result.0 c.locate-p.result.1 place

pub returns-else-len-eq1-clause-each : goal.returns-else-len-eq1-clause-each
returns-else-len-eq1-clause-each c =
    ap (length {A = ℕ}) c.requires.firsts ∙ length-starts 0 c.args.leaves.now.items ∙ sym (length-set c.args.leaves.now.items c.locate-p.result.0 c.remove-else-len-eq1.new.self)

pub returns-else-len-eq1-clause-filled : goal.returns-else-len-eq1-clause-filled
returns-else-len-eq1-clause-filled c =
    let pages : List (List ℕ) = c.args.leaves.now.items in
    let place : IsPlace pages c.args.k c.locate-p.result.0 c.locate-p.result.1 = subst (λ (l : List (List ℕ)). IsPlace l c.args.k c.locate-p.result.0 c.locate-p.result.1) c.deref.ensures.value c.locate-p.ensures in
    let seen : c.index_mut-leaf.result.now ≡ page_at pages c.locate-p.result.0
    = get_or_read pages c.locate-p.result.0 c.index_mut-leaf.result.now place.page c.index_mut-leaf.ensures.value [] in
    let first : c.index.result.now ≡ page_at pages c.locate-p.result.0 = get_or_read pages c.locate-p.result.0 c.index.result.now place.page c.index.ensures [] in
    let less = length-remove (page_at pages c.locate-p.result.0) c.locate-p.result.1 place.within in
    let now = ap (length {A = ℕ}) (c.remove-else-len-eq1.ensures ∙ ap (λ (l : List ℕ). remove l c.locate-p.result.1) seen) in
    filled_set pages c.locate-p.result.0 c.remove-else-len-eq1.new.self c.requires.filled place.page
    (omega (arith, less, now, c.if-len-eq1.false, c.len.ensures, ap (length {A = ℕ}) first, place.within))
