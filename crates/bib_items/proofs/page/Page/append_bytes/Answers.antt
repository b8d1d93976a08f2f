use Rattle.bib_items.proofs.Words.{◌≡◌, ◌<◌, ◌++◌, ◌∙◌, List, ℕ, length, subst, ap, arith, flat_map, between, kept_bytes}
use Rattle.bib_items.proofs.Appended.{appended_none, appended_more}
use Rattle.bib_items.proofs.page.Page.append_bytes.Goals as goal

pub append-init : goal.append-init
append-init c = appended_none c.args.self.now c.args.from c.args.out.now.items

pub append-preserved : goal.append-preserved
append-preserved c =
    let here : c.append.k < length c.args.self.now = omega (arith, c.append-test.true, c.requires.within) in
    c.in_ok-extend_from_slice-2.ensures.items
    ∙ ap (λ (l : List ℕ). l ++ c.texts.result.1.now) c.in_ok-extend_from_slice.ensures.items
    ∙ appended_more c.args.self.now c.args.from c.append.k c.args.out.now.items c.append.out.items c.texts.result.0.now c.texts.result.1.now c.append.auto.k here c.texts.ensures.body c.texts.ensures.trail c.append.invariant

pub returns-clause-bytes : goal.returns-clause-bytes
returns-clause-bytes c =
    let end : c.append.k ≡ c.args.to = omega (arith, c.append-test.false, c.append.auto.k-end c.requires.ordered) in
    subst (λ (n : ℕ). c.append.out.items ≡ c.args.out.now.items ++ flat_map kept_bytes (between c.args.from n c.args.self.now)) end c.append.invariant
