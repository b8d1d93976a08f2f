use Rattle.bib_journal.proofs.Words.{take, DoesAll}
use Rattle.bib_journal.proofs.performing.perform.Given as goal

abbrev pub invariant-each : goal.invariant-each
invariant-each g l = DoesAll (take l.n l.requests) l.fn.session l.session
