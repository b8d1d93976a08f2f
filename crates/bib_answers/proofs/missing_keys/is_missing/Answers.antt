use Rattle.bib_answers.proofs.Words.{ap, sym}
use Rattle.std.proofs.Common.{is_none}
use Rattle.bib_answers.proofs.missing_keys.is_missing.Goals as goal

pub returns-in-Ok : goal.returns-in-Ok
returns-in-Ok c r reads = sym (ap is_none (c.in-Ok.ensures.found r reads))

pub returns-in-Err : goal.returns-in-Err
returns-in-Err c r reads = sym (ap is_none (c.in-Err.ensures.none.1 r reads))
