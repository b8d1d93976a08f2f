use Rattle.bib_answers.proofs.Words.{entries_of}
use Rattle.bib_answers.proofs.MissingKeys.{told_start, told_next, told_end}
use Rattle.bib_answers.proofs.missing_keys.add_missing_in.Goals as goal

pub keys-init : goal.keys-init
keys-init c r reads start before have = told_start (entries_of r) start before _ _ have

pub keys-preserved : goal.keys-preserved
keys-preserved c r reads start before have =
    told_next c.args.keys.now c.keys.cited-index c.cited-item.result _ (entries_of r) start before _ _ c.keys-test.true c.cited-item.is
    (c.in_ok-add_missing.ensures r reads start _ (c.keys.invariant r reads start before have))

pub returns : goal.returns
returns c r reads start before have = told_end c.args.keys.now c.keys.cited-index _ (entries_of r) start before _ _ c.keys-test.false (c.keys.invariant r reads start before have)
