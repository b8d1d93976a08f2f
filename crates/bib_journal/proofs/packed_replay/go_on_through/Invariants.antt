use Rattle.bib_journal.proofs.ReplayLemmas.{AreGoneOn}
use Rattle.bib_journal.proofs.packed_replay.go_on_through.Given as goal

abbrev pub invariant-step : goal.invariant-step
invariant-step g l = AreGoneOn l.steps l.n l.fn.db l.db
