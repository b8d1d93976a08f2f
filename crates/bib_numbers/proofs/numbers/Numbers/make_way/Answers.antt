use Rattle.bib_numbers.proofs.Words.{refl, ◌≡◌, ◌<◌, ◌+◌, ◌^◌, ℕ, List, ◌∙◌, suc, sym, ap, ap₂, subst, PartAt, Ascend, HaveNext, rank_in, moved_from}
use Rattle.bib_numbers.proofs.MovedNumbers.{moved_rest, plus_one, rest_has, ends, ascend_raised, rank_raised}
use Rattle.bib_numbers.proofs.numbers.Numbers.make_way.Goals as goal

rank : (c : goal.After-shift_from) → c.count_below-k.result ≡ rank_in c.args.n c.self.inside.list
rank c = c.count_below-k.ensures.counted c.self.invariant

now : (c : goal.After-shift_from) → c.shift_from.new.self ≡ moved_from suc c.count_below-k.result c.self.inside.list
now c = c.shift_from.ensures ∙ plus_one c.self.inside.list c.count_below-k.result (rest_has (λ m. m + 1 < 2 ^ 64) c.count_below-k.result c.self.inside.list (subst HaveNext (sym c.self.view_is) (c.if-has_greatest.ensures.none refl)))

pub invariant_of-self : goal.invariant_of-self
invariant_of-self c = subst Ascend (sym (now c)) (ascend_raised c.args.n c.count_below-k.result c.self.inside.list c.self.invariant (rank c))

pub returns-clause-rank : goal.returns-clause-rank
returns-clause-rank c = ap (rank_in c.args.n) (now c) ∙ rank_raised c.args.n c.count_below-k.result c.self.inside.list c.self.invariant (rank c) ∙ ap (rank_in c.args.n) c.self.view_is

pub returns-clause-moved : goal.returns-clause-moved
returns-clause-moved c front rest p fit =
    let inside = subst (PartAt c.args.n front rest) (sym c.self.view_is) p in
    now c ∙ ap₂ (λ (j : ℕ) (l : List ℕ). moved_from suc j l) (ends c.args.n c.count_below-k.result c.self.inside.list c.self.invariant (rank c) front rest inside) inside.whole ∙ moved_rest suc front rest
