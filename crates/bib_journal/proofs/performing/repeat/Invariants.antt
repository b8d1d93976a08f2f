use Rattle.bib_journal.proofs.Words.{take, replicate, DoesAll}
use Rattle.bib_journal.proofs.performing.repeat.Given as goal

abbrev pub invariant-each : goal.invariant-each
invariant-each g l = DoesAll (take l.round (replicate l.times l.request)) l.fn.session l.session
