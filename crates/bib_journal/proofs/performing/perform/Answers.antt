use Rattle.bib_journal.proofs.Words.{rules}
use Rattle.bib_journal.proofs.OneMoreRequest.{does_more}
use Rattle.bib_journal.proofs.performing.perform.Goals as goal

pub each-preserved : goal.each-preserved
each-preserved g c = does_more c.args.requests.now c.each.n c.index-requests-n.result c.args.session.now c.each.session c.perform_one.new.session c.each.invariant c.each-test.true c.index-requests-n.is (search rules)
