use Rattle.bib_items.proofs.Words.{◌≡◌, ◌+◌, ◌∙◌, List, length, take, ap, subst, arith, Item, joined, IsPlace}
use Rattle.bib_items.proofs.WholePages.{joined-taken}
use Rattle.bib_items.proofs.seams.take_some.Goals as goal

pub returns-then-items-gt0-clause-list : goal.returns-then-items-gt0-clause-list
returns-then-items-gt0-clause-list c =
    let pages : List (List Item) = c.args.pages.now.items in
    let place : IsPlace pages c.args.n c.locate-p.result.0 c.locate-p.result.1 = subst (λ (l : List (List Item)). IsPlace l c.args.n c.locate-p.result.0 c.locate-p.result.1) c.deref.ensures.value c.locate-p.ensures in
    let at : length (joined (take c.locate-p.result.0 pages)) ≡ c.args.n = omega (arith, place.at, c.if-k-eq0.true) in
    let passed : length (joined (take c.locate-p.result.0 pages)) + c.whole_pages-q.result.1 ≡ length (joined (take c.whole_pages-q.result.0 pages))
    = subst (λ (l : List (List Item)). length (joined (take c.locate-p.result.0 l)) + c.whole_pages-q.result.1 ≡ length (joined (take c.whole_pages-q.result.0 l))) c.deref-then-k-eq0.ensures.value c.whole_pages-q.ensures.items in
    ap joined c.take_pages.ensures ∙ joined-taken pages c.args.n (c.args.n + c.whole_pages-q.result.1) c.locate-p.result.0 c.whole_pages-q.result.0 at (omega arith)
