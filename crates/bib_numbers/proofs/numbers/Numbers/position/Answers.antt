use Rattle.bib_numbers.proofs.Words.{◌∙◌, sym, subst, arith, AllByRecursion, get_or_from_slice_get}
use Rattle.std.proofs.Common.{◌≢◌}
use Rattle.bib_numbers.proofs.MovedNumbers.{absent}
use Rattle.bib_numbers.proofs.numbers.Numbers.position.Goals as goal

pub returns-then-k-count-clause-none : goal.returns-then-k-count-clause-none
returns-then-k-count-clause-none c =
    subst (AllByRecursion (λ m. m ≢ c.args.n)) c.self.view_is
    (absent c.args.n c.count_below-k.result c.self.inside.list c.self.invariant (c.count_below-k.ensures.counted c.self.invariant)
    (λ lt. absurd (omega (arith, lt, c.if-k-count.true, c.count.ensures))))

pub returns-else-get-n-clause-none : goal.returns-else-get-n-clause-none
returns-else-get-n-clause-none c =
    subst (AllByRecursion (λ m. m ≢ c.args.n)) c.self.view_is
    (absent c.args.n c.count_below-k.result c.self.inside.list c.self.invariant (c.count_below-k.ensures.counted c.self.invariant)
    (λ lt is. c.if-get-n.false (sym (get_or_from_slice_get c.self.inside.list c.count_below-k.result c.get.result 0 c.get.ensures) ∙ is)))
