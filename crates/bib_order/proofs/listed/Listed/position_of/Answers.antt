use Rattle.bib_order.proofs.Words.{◌≡◌, ℕ, List, Some, sym, subst, slice_get, IfNone, Lacks}
use Rattle.bib_order.proofs.Counted.{front_found, lacks_all}
use Rattle.bib_order.proofs.listed.Listed.position_of.Goals as goal

pub returns-then-id-self-clause-found : goal.returns-then-id-self-clause-found
returns-then-id-self-clause-found c =
    subst (λ (ids : List ℕ). slice_get ids c.args.id ≡ Some c.args.id) c.self.view_is (front_found c.self.inside.count c.self.inside.list.items c.args.id c.if-id-self.true)

pub returns-in_err-n-clause-none : goal.returns-in_err-n-clause-none
returns-in_err-n-clause-none c =
    let lacks = subst (λ (ids : List ℕ). Lacks ids c.args.id) c.deref.ensures.value c.in_err-n.ensures.none in
    subst (λ o. IfNone o (Lacks c.args.self.now c.args.id)) (sym c.from_residual.ensures)
    (subst (λ (ids : List ℕ). Lacks ids c.args.id) c.self.view_is (lacks_all c.self.inside.count c.self.inside.list.items c.args.id c.if-id-self.false lacks))
