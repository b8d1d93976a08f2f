use Rattle.bib_order.proofs.Words.{◌∙◌, subst, sym, ⊎_elim, cases_lt, IsDistinct}
use Rattle.std.proofs.lemmas.Bool.{lt-ltb, le-ltb}
use Rattle.bib_order.proofs.Counting.{stands_below, stands_later, stands_nowhere}
use Rattle.bib_order.proofs.Keeping.{kept_distinct}
use Rattle.bib_order.proofs.order.Order.stands_before.Goals as goal

pub returns-in-Some : goal.returns-in-Some
returns-in-Some c =
    let distinct = subst IsDistinct c.self.view_is (kept_distinct c.self.inside.ids c.self.invariant) in
    ⊎_elim
    (λ low. lt-ltb c.in-Some.m c.args.n low ∙ sym (stands_below c.args.self.now c.args.n c.in-Some.m c.args.id c.in-Some.ensures.found low))
    (λ high. le-ltb c.in-Some.m c.args.n high ∙ sym (stands_later c.args.self.now c.args.n c.in-Some.m c.args.id distinct c.in-Some.ensures.found high))
    (cases_lt c.in-Some.m c.args.n)

pub returns-in-None : goal.returns-in-None
returns-in-None c = sym (stands_nowhere c.args.self.now c.args.n c.args.id c.in-None.ensures.none)
