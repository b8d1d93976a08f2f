use Rattle.bib_items.proofs.Words.{◌≡◌, ◌<◌, ◌++◌, ◌∙◌, List, ℕ, length, subst, ap, arith, flat_map, between, kept_bytes}
use Rattle.bib_items.proofs.Appended.{appended_none, appended_more}
use Rattle.bib_items.proofs.list.ItemList.append_bytes.Goals as goal

pub append-init : goal.append-init
append-init g c =
    let items = g.Self.ItemList.items c.args.self.now in
    appended_none items c.args.from c.args.out.now.items

pub append-preserved : goal.append-preserved
append-preserved g c =
    let items = g.Self.ItemList.items c.args.self.now in
    let here : c.append.n < length items = omega (arith, c.append-test.true, c.requires.within) in
    c.in_ok-extend_from_slice-2.ensures.items
    ∙ ap (λ (l : List ℕ). l ++ c.texts.result.1.now) c.in_ok-extend_from_slice.ensures.items
    ∙ appended_more items c.args.from c.append.n c.args.out.now.items c.append.out.items c.texts.result.0.now c.texts.result.1.now c.append.auto.n here c.texts.ensures.body c.texts.ensures.trail c.append.invariant

pub returns-clause-bytes : goal.returns-clause-bytes
returns-clause-bytes g c =
    let items = g.Self.ItemList.items c.args.self.now in
    let end : c.append.n ≡ c.args.to = omega (arith, c.append-test.false, c.append.auto.n-end c.requires.ordered) in
    subst (λ (n : ℕ). c.append.out.items ≡ c.args.out.now.items ++ flat_map kept_bytes (between c.args.from n items)) end c.append.invariant
