use Rattle.bib_c.proofs.Reported.{moves_reported}
use Rattle.bib_c.proofs.calls.begin.Goals as goal

pub returns : goal.returns
returns c = moves_reported c.begin.result c.of_made.ensures.done c.of_made.ensures.refused c.begin.ensures.begun c.begin.ensures.refused c.begin.ensures.answer c.begin.ensures.err
