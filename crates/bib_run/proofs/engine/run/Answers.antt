use Rattle.bib_run.proofs.Words.{Some, ap}
use Rattle.bib_run.proofs.engine.run.Goals as goal

-- the journal is known where the match took it
pub returns-in-Some-clause-ran : goal.returns-in-Some-clause-ran
returns-in-Some-clause-ran g c = rw (c.in-Some.is) c.run_beside.ensures.ran

pub returns-in-Some-clause-journal : goal.returns-in-Some-clause-journal
returns-in-Some-clause-journal g c = rw (c.in-Some.is) (λ left_alone. ap Some (c.run_beside.ensures.journal left_alone))

pub returns-in-None-clause-ran : goal.returns-in-None-clause-ran
returns-in-None-clause-ran g c = rw (c.in-None.is) c.run_beside-in-None.ensures.ran
