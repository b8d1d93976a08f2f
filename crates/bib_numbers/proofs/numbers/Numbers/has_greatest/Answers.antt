use Rattle.bib_numbers.proofs.Words.{◌≡◌, ◌≤◌, ◌<◌, ◌+◌, ◌-◌, ◌^◌, length, slice_index_or, sym, subst, arith, AllByRecursion, get_or_from_slice_get, PartAt, HaveNext}
use Rattle.std.proofs.lemmas.Bool.{eqb-true, eqb-false}
use Rattle.bib_numbers.proofs.MovedNumbers.{below_last, at_most, have_next, next_of_last}
use Rattle.bib_numbers.proofs.numbers.Numbers.has_greatest.Goals as goal

last : (c : goal.In-Some) → slice_index_or c.self.inside.list (length c.self.inside.list - 1) 0 ≡ c.in-Some.last
last c = get_or_from_slice_get c.self.inside.list (length c.self.inside.list - 1) c.in-Some.last 0 c.in-Some.ensures.last

place : (c : goal.In-Some) → (length c.self.inside.list - 1) + 1 ≡ length c.self.inside.list
place c = omega (arith, c.in-Some.ensures.some.0)

all : (c : goal.In-Some) → AllByRecursion (λ m. m ≤ c.in-Some.last) c.self.inside.list
all c = below_last c.self.inside.list (length c.self.inside.list - 1) c.in-Some.last c.self.invariant (place c) (sym (last c))

pub returns-in-Some-clause-fit : goal.returns-in-Some-clause-fit
returns-in-Some-clause-fit c = subst (AllByRecursion (λ m. m < 2 ^ 64)) c.self.view_is (at_most c.self.inside.list c.in-Some.last (2 ^ 64) c.in-Some.ensures.some.1 (all c))

pub returns-in-Some-clause-none : goal.returns-in-Some-clause-none
returns-in-Some-clause-none c other =
    let differs = eqb-false c.in-Some.last (2 ^ 64 - 1) other in
    let next : c.in-Some.last + 1 < 2 ^ 64 = omega (arith, differs, c.in-Some.ensures.some.1) in
    subst HaveNext c.self.view_is (have_next c.self.inside.list c.in-Some.last next (all c))

pub returns-in-Some-clause-some : goal.returns-in-Some-clause-some
returns-in-Some-clause-some c greatest n front rest fits p fit =
    let is = eqb-true c.in-Some.last (2 ^ 64 - 1) greatest in
    let high : n ≤ c.in-Some.last = omega (arith, is, fits) in
    let next = next_of_last n front rest c.self.inside.list (length c.self.inside.list - 1) c.in-Some.last (subst (PartAt n front rest) (sym c.self.view_is) p) fit high (place c) (sym (last c)) in
    absurd (omega (arith, is, next))
