use Rattle.bib_numbers.proofs.Words.{refl, ◌≡◌, ◌<◌, ◌+◌, ◌^◌, ◌∙◌, suc, insert, sym, ap, subst, PartAt, HasParts, Ascend, HaveNext, rank_in, plus, moved_from}
use Rattle.bib_numbers.proofs.MovedNumbers.{put_number, plus_one, rest_put, parted_at, ends, ascend_put}
use Rattle.bib_numbers.proofs.numbers.Numbers.insert.Goals as goal

rank : (c : goal.After-shift_from) → c.count_below-k.result ≡ rank_in c.args.n c.self.inside.list
rank c = c.count_below-k.ensures.counted c.self.invariant

now : (c : goal.After-shift_from) → c.shift_from.new.self ≡ moved_from suc (c.count_below-k.result + 1) (insert c.self.inside.list c.count_below-k.result c.args.n)
now c =
    let k = c.count_below-k.result in
    c.shift_from.ensures
    ∙ ap (moved_from (plus 1) (k + 1)) c.in_ok-insert.ensures.ok
    ∙ plus_one (insert c.self.inside.list k c.args.n) (k + 1) (rest_put (λ m. m + 1 < 2 ^ 64) k c.args.n c.self.inside.list c.count_below-k.ensures.within (subst HaveNext (sym c.self.view_is) (c.if-has_greatest.ensures.none refl)))

pub invariant_of-self-2 : goal.invariant_of-self-2
invariant_of-self-2 c = subst Ascend (sym (now c)) (ascend_put c.args.n c.count_below-k.result c.self.inside.list c.self.invariant (rank c))

pub returns-clause-ok : goal.returns-clause-ok
returns-clause-ok c front rest p fit =
    let inside = subst (PartAt c.args.n front rest) (sym c.self.view_is) p in
    now c ∙ put_number c.args.n c.count_below-k.result front rest c.self.inside.list inside (ends c.args.n c.count_below-k.result c.self.inside.list c.self.invariant (rank c) front rest inside)

pub returns-clause-parts : goal.returns-clause-parts
returns-clause-parts c = (subst (HasParts c.args.n) c.self.view_is (parted_at c.args.n c.self.inside.list c.self.invariant), c.if-has_greatest.ensures.none refl)
