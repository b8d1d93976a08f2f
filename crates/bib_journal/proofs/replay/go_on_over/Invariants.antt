use Rattle.bib_journal.proofs.ReplayLemmas.{AreGoneOn}
use Rattle.bib_journal.proofs.replay.go_on_over.Given as goal

abbrev pub invariant-step : goal.invariant-step
invariant-step g l = AreGoneOn l.steps l.step-index l.fn.db l.db
