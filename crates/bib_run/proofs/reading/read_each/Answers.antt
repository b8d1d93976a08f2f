use Rattle.bib_run.proofs.Endings.{has_read}
use Rattle.bib_run.proofs.reading.read_each.Goals as goal

pub returns-clause-ok : goal.returns-clause-ok
returns-clause-ok g c = has_read _ _ _ _ _ _ c.in-Ok.ensures.ok c.in-Ok-read_journal.ensures.ok c.in-Ok-read_input.ensures.ok
