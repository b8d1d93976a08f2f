use Rattle.bib_order.proofs.Words.{subst, sym, IfNone, Lacks}
use Rattle.bib_order.proofs.Ascending.{search_lacks}
use Rattle.bib_order.proofs.listed.position_among.Goals as goal

pub returns-clause-none : goal.returns-clause-none
returns-clause-none c =
    subst (λ o. IfNone o (Lacks c.args.ids.now c.args.id)) (sym c.ok.ensures.value) (search_lacks c.args.ids.now c.args.id c.binary_search.result c.binary_search.ensures.position c.requires)
