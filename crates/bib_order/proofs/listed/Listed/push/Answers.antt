use Rattle.bib_order.proofs.Words.{◌≡◌, ◌∙◌, ◌++◌, ◌+◌, ℕ, List, [], length, insert, subst, ap, ap₂, rules, arith, Lacks}
use Rattle.std.proofs.lemmas.List.{nil_from_length}
use Rattle.bib_order.specs.Counted.{counted}
use Rattle.bib_order.proofs.Counted.{more_counted, lacks_counted, ascend_alone}
use Rattle.bib_order.proofs.listed.Listed.push.Goals as goal

none : (c : goal.After-self-1) → c.self.inside.list.items ≡ []
none c = search (rules, c.if-not-is_empty.ensures, nil_from_length)

next : (c : goal.After-self-1) → c.in-Some.count ≡ c.self.inside.count + 1
next c = omega (arith, c.in-Some.ensures)

more : (c : goal.After-self-1) → counted c.in-Some.count ++ c.reserve.new.self.items ≡ insert c.args.self.now (length c.args.self.now) c.self.inside.count
more c =
    ap₂ (λ (n : ℕ) (list : List ℕ). counted n ++ list) (next c) c.in_ok-reserve.ensures.items ∙ more_counted c.self.inside.count c.self.inside.list.items (none c)
    ∙ ap (λ (ids : List ℕ). insert ids (length ids) c.self.inside.count) c.self.view_is

pub returns-clause-ok : goal.returns-clause-ok
returns-clause-ok c =
    (more c, subst (λ (ids : List ℕ). Lacks ids c.self.inside.count) c.self.view_is (lacks_counted c.self.inside.count c.self.inside.list.items (none c)))

pub returns-clause-up : goal.returns-clause-up
returns-clause-up c = ascend_alone c.in-Some.count c.reserve.new.self.items (c.in_ok-reserve.ensures.items ∙ none c)
