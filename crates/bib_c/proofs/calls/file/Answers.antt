use Rattle.bib_c.proofs.Reported.{gives_reported}
use Rattle.bib_c.proofs.calls.file.Goals as goal

pub returns : goal.returns
returns c = gives_reported c.file.result c.of_made.ensures.done c.of_made.ensures.refused c.file.ensures.given c.file.ensures.refused c.file.ensures.session c.file.ensures.err
