use Rattle.std.proofs.Common.{◌≡◌, true, false, rules, subst}
use Rattle.bib_run.specs.Transfers.{WritesPrefix}
use Rattle.bibkeep.proofs.Writing.{wrote_both, wrote_first}
use Rattle.bibkeep.proofs.endings.write_both.Goals as goal

pub returns-then-not-write_whole-clause-written : goal.returns-then-not-write_whole-clause-written
returns-then-not-write_whole-clause-written g c =
    let stopped : c.write_whole.result ≡ false = search rules in
    wrote_first _ _ _ _ (subst (WritesPrefix _ _ c.args.first.now) stopped c.write_whole.ensures.written)

pub returns-clause-written : goal.returns-clause-written
returns-clause-written g c =
    let done : c.write_whole.result ≡ true = search rules in
    wrote_both _ _ _ _ _ _ (subst (WritesPrefix _ _ c.args.first.now) done c.write_whole.ensures.written) c.write_whole-2.ensures.written
