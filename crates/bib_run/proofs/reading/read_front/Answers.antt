use Rattle.bib_run.proofs.Endings.{keeps_front}
use Rattle.bib_run.proofs.reading.read_front.Goals as goal

pub returns-in-Ok-clause-ok : goal.returns-in-Ok-clause-ok
returns-in-Ok-clause-ok g c = rw (c.from_vec.ensures) (keeps_front _ _ c.in-Ok.bytes.items c.in-Ok.ensures.ok c.in-Ok.ensures.sound)
