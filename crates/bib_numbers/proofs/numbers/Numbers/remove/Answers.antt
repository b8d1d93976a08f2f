use Rattle.bib_numbers.proofs.Words.{ℕ, ◌∷◌, ◌∙◌, suc, length, length-append, map, sym, ap, subst, arith, Ascend}
use Rattle.bib_numbers.proofs.MovedNumbers.{part_with, taken_number, ascend_removed, ends}
use Rattle.bib_numbers.proofs.numbers.Numbers.remove.Goals as goal

pub invariant_of-self : goal.invariant_of-self
invariant_of-self c = subst Ascend (sym c.remove.ensures) (ascend_removed c.count_below-k.result c.self.inside.list c.self.invariant)

pub returns-then-k-count-clause-taken : goal.returns-then-k-count-clause-taken
returns-then-k-count-clause-taken c front rest p fit is =
    let whole = c.self.view_is ∙ is in
    let inside = part_with c.args.n front rest c.self.inside.list p whole in
    let k = ends c.args.n c.count_below-k.result c.self.inside.list c.self.invariant (c.count_below-k.ensures.counted c.self.invariant) front (c.args.n ∷ map suc rest) inside in
    c.close.ensures.moved front rest p fit (c.remove.ensures ∙ taken_number c.args.n c.count_below-k.result front (map suc rest) c.self.inside.list whole k)

pub returns-else-k-count-clause-taken : goal.returns-else-k-count-clause-taken
returns-else-k-count-clause-taken c front rest p fit is =
    let whole = c.self.view_is ∙ is in
    let inside = part_with c.args.n front rest c.self.inside.list p whole in
    let k = ends c.args.n c.count_below-k.result c.self.inside.list c.self.invariant (c.count_below-k.ensures.counted c.self.invariant) front (c.args.n ∷ map suc rest) inside in
    absurd (omega (arith, k, c.if-k-count.false, c.count.ensures, ap (length {A = ℕ}) whole, length-append front (c.args.n ∷ map suc rest)))
