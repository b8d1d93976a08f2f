use Rattle.bib_order.proofs.Words.{◌<◌, ℕ, List, get_or, subst, sym, Lacks}
use Rattle.bib_order.proofs.Ascending.{later_lacks}
use Rattle.bib_order.proofs.id_pages.IdPages.of.Goals as goal

pub take_in-requires-clause-spare : goal.take_in-requires-clause-spare
take_in-requires-clause-spare c =
    let within = subst (λ (n : ℕ). c.fill.k < n) c.len-k-end.ensures c.fill-test.true in
    subst (λ (id : ℕ). Lacks c.fill.paged id) (sym c.id_at.ensures)
    (subst (λ (l : List ℕ). Lacks l (get_or c.args.ids.now c.fill.k 0)) (sym c.fill.invariant) (later_lacks c.args.ids.now c.fill.k c.requires within))
