use Rattle.bib_c.proofs.Reported.{gives_reported}
use Rattle.bib_c.proofs.calls.save.Goals as goal

pub returns : goal.returns
returns c = gives_reported c.save.result c.of_made.ensures.done c.of_made.ensures.refused c.save.ensures.given c.save.ensures.refused c.save.ensures.session c.save.ensures.err
