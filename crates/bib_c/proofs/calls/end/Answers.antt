use Rattle.bib_c.proofs.Reported.{moves_reported}
use Rattle.bib_c.proofs.calls.end.Goals as goal

pub returns : goal.returns
returns c = moves_reported c.end.result c.of_made.ensures.done c.of_made.ensures.refused c.end.ensures.ended c.end.ensures.refused c.end.ensures.answer c.end.ensures.err
