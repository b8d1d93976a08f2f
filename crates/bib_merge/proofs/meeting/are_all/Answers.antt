use Rattle.std.proofs.Common.{subst}
use Rattle.std.proofs.lemmas.Bool.{false≢true}
use Rattle.bib_merge.specs.Bodies.{bodies_of, AreMet}
use Rattle.bib_merge.proofs.ItemsMet.{none-are}
use Rattle.bib_merge.proofs.meeting.are_all.Goals as goal

pub returns-in-None : goal.returns-in-None
returns-in-None c rm reads wanted met =
    (λ is. absurd (false≢true is), λ same. absurd (none-are (bodies_of rm) wanted (subst (AreMet (bodies_of rm) wanted) c.in-None.is met) same))
