use Rattle.bib_order.proofs.Words.{◌<◌, ℕ, length, subst, sym, ap, arith, IsDistinct, ids_of, AreKept}
use Rattle.bib_order.specs.contracts.order.Order.{the_invariant}
use Rattle.bib_order.proofs.Ordering.{distinct_remove}
use Rattle.bib_order.proofs.order.Order.take_out.Goals.{in-Listed, in-Paged}
use Rattle.bib_order.proofs.order.Order.take_out.Goals as goal

pub invariant_of-self : goal.invariant_of-self
invariant_of-self c =
    let within : c.args.n < length (ids_of c.self.inside.ids) = omega (arith, c.requires, ap (length {A = ℕ}) c.self.view_is) in
    elim c.match-self.branch [
      | in-Listed w ↦
          subst the_invariant (sym w.self-inside-is) w.remove.ensures.up
      | in-Paged w ↦
          subst the_invariant (sym w.self-inside-is) (subst IsDistinct (sym w.remove-in-Paged.ensures)
          (distinct_remove w.in-Paged.paged c.args.n (subst AreKept w.in-Paged.is c.self.invariant) (subst (λ ids. c.args.n < length (ids_of ids)) w.in-Paged.is within)))
    ]
