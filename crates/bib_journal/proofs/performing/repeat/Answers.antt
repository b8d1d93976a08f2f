use Rattle.bib_journal.proofs.Words.{rules, replicate, Some, sym, subst, SessionState, Performs}
use Rattle.bib_journal.proofs.OneMoreRequest.{repeats_more, repeats_up_to}
use Rattle.bib_journal.proofs.performing.repeat.Goals as goal

pub each-preserved : goal.each-preserved
each-preserved g c = repeats_more c.args.times c.each.round c.args.request.now c.args.session.now c.each.session c.perform_one.new.session c.each.invariant c.each-test.true (search rules)

pub returns-in-Err : goal.returns-in-Err
returns-in-Err g c =
    subst (λ (k : SessionState). Performs (replicate c.args.times c.args.request.now) c.each.round (Some c.in-Err.fault) c.args.session.now k) (sym c.in-Err.ensures.err)
    (repeats_up_to c.args.times c.each.round c.args.request.now c.in-Err.fault c.args.session.now c.each.session c.each.invariant c.each-test.true c.in-Err.ensures.refused)
