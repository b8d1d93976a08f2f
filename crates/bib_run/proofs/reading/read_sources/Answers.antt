use Rattle.bib_run.proofs.Words.{Some, ap}
use Rattle.bib_run.proofs.reading.read_sources.Goals as goal

-- the journal is known where the match took it
pub returns-in-Some-clause-read : goal.returns-in-Some-clause-read
returns-in-Some-clause-read g c = rw (c.in-Some.is) c.read_beside.ensures.read

pub returns-in-Some-clause-unread : goal.returns-in-Some-clause-unread
returns-in-Some-clause-unread g c = rw (c.in-Some.is) c.read_beside.ensures.unread

pub returns-in-Some-clause-journal : goal.returns-in-Some-clause-journal
returns-in-Some-clause-journal g c = rw (c.in-Some.is) (λ left_alone. ap Some (c.read_beside.ensures.journal left_alone))
