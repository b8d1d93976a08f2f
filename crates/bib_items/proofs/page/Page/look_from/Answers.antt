use Rattle.bib_items.proofs.Words.{◌<◌, length, arith, Item, LacksPart}
use Rattle.bib_items.proofs.Passed.{lack-more}
use Rattle.bib_items.proofs.page.Page.look_from.Goals as goal

pub pass-preserved : goal.pass-preserved
pass-preserved c =
    let here : c.pass.n < length c.args.self.now = omega (arith, c.pass-test.true, c.len-n-end.ensures) in (
      lack-more (λ (i : Item). LacksPart c.args.sought.now i.body) c.args.self.now c.args.k c.pass.n c.pass.auto.n here (c.passes.ensures c.if-not-passes.false) c.pass.invariant.0,
      lack-more (λ (i : Item). LacksPart c.args.other.now i.body) c.args.self.now c.args.k c.pass.n c.pass.auto.n here (c.passes-else-not-passes.ensures c.if-not-passes-2.false) c.pass.invariant.1,
    )
