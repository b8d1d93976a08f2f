use Rattle.std.proofs.Common.{◌≡◌, ◌++◌, true, false, codes, rules, subst}
use Rattle.bib_run.specs.Transfers.{WritesPrefix}
use Rattle.bibkeep.proofs.Writing.{wrote_both, wrote_first}
use Rattle.bibkeep.proofs.endings.write_in.Goals as goal

pub returns-then-not-write_both-clause-written : goal.returns-then-not-write_both-clause-written
returns-then-not-write_both-clause-written g c =
    let stopped : c.write_both.result ≡ false = search rules in
    wrote_first _ _ _ _ (subst (WritesPrefix _ _ (c.args.text.now ++ codes " in ")) stopped c.write_both.ensures.written)

pub returns-clause-written : goal.returns-clause-written
returns-clause-written g c =
    let done : c.write_both.result ≡ true = search rules in
    wrote_both _ _ _ _ _ _ (subst (WritesPrefix _ _ (c.args.text.now ++ codes " in ")) done c.write_both.ensures.written) c.write_both-2.ensures.written
