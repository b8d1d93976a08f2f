use Rattle.bib_items.proofs.Words.{Some, arith}
use Rattle.bib_items.proofs.Covered.{covered-first, covered-next, covered-all}
use Rattle.bib_items.proofs.page.Page.marked.Goals as goal

pub items-init : goal.items-init
items-init c = covered-first c.args.self.now _

pub items-preserved : goal.items-preserved
items-preserved c = covered-next c.args.self.now c.items.marks c.add_item.new.self c.items.k c.texts.result.0.now (omega (arith, c.items-test.true, c.len-k-end.ensures)) c.texts.ensures.body c.add_item.ensures.kept c.in_ok-add_item.ensures.added c.items.invariant

pub returns : goal.returns
returns c = covered-all c.args.self.now (Some c.items.marks) c.items.k (omega (arith, c.items-test.false, c.len-k-end.ensures)) c.items.invariant
