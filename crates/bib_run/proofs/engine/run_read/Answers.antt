use Rattle.bib_run.proofs.Words.{refl}
use Rattle.bib_run.specs.Runs.{IsRunOver}
use Rattle.bib_run.proofs.engine.run_read.Goals as goal

pub returns-in-Ok : goal.returns-in-Ok
returns-in-Ok g c = IsRunOver.answered c.in-Ok.answer c.in-Ok.ensures c.write_answer.ensures

pub returns-in-Err : goal.returns-in-Err
returns-in-Err g c = IsRunOver.unanswered refl (rw (c.outcome_of.ensures, c.empty.ensures) refl)
