use Rattle.bib_items.proofs.Words.{◌++◌, ◌∙◌, List, take, drop, ap, on_ok_weaker, Item, joined}
use Rattle.bib_items.proofs.WholePages.{joined-put}
use Rattle.bib_items.proofs.seams.put_all.Goals as goal

pub returns-clause-ok : goal.returns-clause-ok
returns-clause-ok c =
    on_ok_weaker c.put_pages.result
    (λ made. ap joined made
    ∙ joined-put c.seam.new.pages.items c.args.new.items c.args.n c.in_ok-p.p c.in_ok-p.ensures.seam
    ∙ ap (λ (l : List Item). take c.args.n l ++ (joined c.args.new.items ++ drop c.args.n l)) c.in_ok-p.ensures.same)
    c.put_pages.ensures.ok
