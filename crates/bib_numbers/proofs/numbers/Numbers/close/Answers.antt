use Rattle.bib_numbers.proofs.Words.{◌≡◌, ◌<◌, ◌^◌, ℕ, List, ◌++◌, ◌∙◌, suc, map, sym, ap, ap₂, subst, arith, AllByRecursion, Ascend, rank_in, moved_from}
use Rattle.bib_numbers.proofs.MovedNumbers.{lowered, moved_rest, map-lowered, less_one, above_rank, ends, part_one, ascend_lowered}
use Rattle.bib_numbers.proofs.numbers.Numbers.close.Goals as goal

rank : (c : goal.After-shift_from) → c.count_below-k.result ≡ rank_in c.max.result c.self.inside.list
rank c = c.count_below-k.ensures.counted c.self.invariant

now : (c : goal.After-shift_from) → c.shift_from.new.self ≡ moved_from lowered c.count_below-k.result c.self.inside.list
now c =
    c.shift_from.ensures
    ∙ less_one c.max.result c.self.inside.list c.count_below-k.result (omega (arith, c.max.ensures))
    (above_rank c.max.result c.count_below-k.result c.self.inside.list c.self.invariant (rank c))
    (subst (AllByRecursion (λ m. m < 2 ^ 64)) (sym c.self.view_is) c.has_greatest.ensures.fit)

pub invariant_of-self : goal.invariant_of-self
invariant_of-self c = subst Ascend (sym (now c)) (ascend_lowered c.max.result c.count_below-k.result c.self.inside.list c.self.invariant (rank c))

pub returns-clause-moved : goal.returns-clause-moved
returns-clause-moved c front rest p fit is =
    let inside = part_one c.args.n c.max.result front rest c.self.inside.list c.max.ensures p (c.self.view_is ∙ is) in
    now c
    ∙ ap₂ (λ (j : ℕ) (l : List ℕ). moved_from lowered j l) (ends c.max.result c.count_below-k.result c.self.inside.list c.self.invariant (rank c) front (map suc rest) inside) inside.whole
    ∙ moved_rest lowered front (map suc rest)
    ∙ ap (λ (l : List ℕ). front ++ l) (map-lowered rest)
