use Rattle.bib_run.proofs.Words.{refl}
use Rattle.bib_run.specs.Runs.{unread}
use Rattle.bib_run.proofs.ReadRuns.{ran_over}
use Rattle.bib_run.proofs.engine.run_beside.Goals as goal

pub returns-in-Ok-clause-ran : goal.returns-in-Ok-clause-ran
returns-in-Ok-clause-ran g c = ran_over _ _ _ _ _ _ _ c.in-Ok.ensures.read c.run_read.ensures

pub returns-in-Err-clause-ran : goal.returns-in-Err-clause-ran
returns-in-Err-clause-ran g c = unread c.in-Err.ensures.unread refl
