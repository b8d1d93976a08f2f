use Rattle.bib_items.proofs.Words.{◌+◌, ◌∙◌, List, ap, subst, sym, Item, joined, IsPlace, joined-parted, IsSeam}
use Rattle.bib_items.proofs.WholePages.{seam_in_page}
use Rattle.bib_items.proofs.seams.seam.Goals as goal

pub returns-clause-seam : goal.returns-clause-seam
returns-clause-seam c =
    let place : IsPlace c.args.pages.now.items c.args.n c.locate-p.result.0 c.locate-p.result.1 = subst (λ (l : List (List Item)). IsPlace l c.args.n c.locate-p.result.0 c.locate-p.result.1) c.deref.ensures.value c.locate-p.ensures in
    subst (λ (l : List (List Item)). IsSeam l c.args.n (c.locate-p.result.0 + 1)) (sym c.in_ok-part.ensures.ok) (seam_in_page c.args.pages.now.items c.args.n c.locate-p.result.0 c.locate-p.result.1 place)

pub returns-clause-same : goal.returns-clause-same
returns-clause-same c =
    let place : IsPlace c.args.pages.now.items c.args.n c.locate-p.result.0 c.locate-p.result.1 = subst (λ (l : List (List Item)). IsPlace l c.args.n c.locate-p.result.0 c.locate-p.result.1) c.deref.ensures.value c.locate-p.ensures in
    ap joined c.in_ok-part.ensures.ok ∙ joined-parted c.args.pages.now.items c.locate-p.result.0 c.locate-p.result.1 place.page
