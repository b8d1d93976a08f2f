use Rattle.bib_scan.proofs.Words.{arith}
use Rattle.bib_scan.proofs.MarkLemmas.{next_marked}
use Rattle.bib_scan.proofs.braces.next_brace.Goals as goal

pub loop-now-preserved : goal.loop-now-preserved
loop-now-preserved c = next_marked c.args.text.now c.args.at c.loop-now.now c.braces_among.result c.loop-now.invariant c.loop-now-test.true (omega (arith, c.loop-now.invariant.within)) c.braces_among.ensures
