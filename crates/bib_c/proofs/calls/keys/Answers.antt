use Rattle.bib_c.proofs.Reported.{gives_reported}
use Rattle.bib_c.proofs.calls.keys.Goals as goal

pub returns : goal.returns
returns c = gives_reported c.keys.result c.of_made.ensures.done c.of_made.ensures.refused c.keys.ensures.given c.keys.ensures.refused c.keys.ensures.session c.keys.ensures.err
