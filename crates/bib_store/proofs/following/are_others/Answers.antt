use Rattle.bib_store.proofs.Words.{◌≡◌, ◌+◌, ◌-◌, ◌∙◌, ℕ, suc, take, subst, arith, bodies_between, DefineNothing}
use Rattle.bib_store.proofs.TableSteps.{no_macro}
use Rattle.bib_store.proofs.Followed.{body_between, pass_more}
use Rattle.bib_store.proofs.following.are_others.Goals as goal

pub pass-preserved : goal.pass-preserved
pass-preserved g c new are =
    let items = g.L.ItemList.items c.args.items.now in
    let low = c.pass.auto.k in
    let next : suc (c.pass.k - c.args.from) ≡ c.pass.k + 1 - c.args.from = omega (arith, low) in
    subst (λ (n : ℕ). DefineNothing (take n new)) next
    (pass_more (c.pass.k - c.args.from) (bodies_between c.args.from c.args.to items) c.body.result.now c.of.result new
    (body_between items c.args.from c.args.to c.pass.k c.body.result.now low c.pass-test.true c.requires.within c.body.ensures)
    (λ e. no_macro c.kind.result c.in-Entry.is (c.kind.ensures ∙ e)) c.of.ensures.item are (c.pass.invariant new are))
