use Rattle.bib_order.proofs.Words.{◌∙◌, ℕ, List, remove, sym, subst, ap, Ascend}
use Rattle.bib_order.proofs.Ascending.{ascend_less}
use Rattle.bib_order.proofs.Counted.{less_counted}
use Rattle.bib_order.proofs.listed.Listed.remove.Goals as goal

pub returns-then-n-self-clause-list : goal.returns-then-n-self-clause-list
returns-then-n-self-clause-list c =
    sym (less_counted c.self.inside.count c.args.n c.self.inside.list.items c.if-self-gt0.true c.if-n-self.true) ∙ ap (λ (ids : List ℕ). remove ids c.args.n) c.self.view_is

pub returns-then-n-self-clause-up : goal.returns-then-n-self-clause-up
returns-then-n-self-clause-up c =
    subst Ascend (sym (sym (less_counted c.self.inside.count c.args.n c.self.inside.list.items c.if-self-gt0.true c.if-n-self.true) ∙ ap (λ (ids : List ℕ). remove ids c.args.n) c.self.view_is))
    (ascend_less c.args.self.now c.args.n c.requires.within c.requires.up)

pub returns-clause-up : goal.returns-clause-up
returns-clause-up c =
    let all = c.write_down.ensures ∙ c.self.view_is in
    subst Ascend (sym (c.remove.ensures.items ∙ ap (λ (ids : List ℕ). remove ids c.args.n) all)) (ascend_less c.args.self.now c.args.n c.requires.within c.requires.up)
