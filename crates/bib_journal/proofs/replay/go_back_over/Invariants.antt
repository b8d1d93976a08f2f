use Rattle.bib_journal.proofs.Words.{length, AreTurnable}
use Rattle.bib_journal.proofs.ReplayLemmas.{AreGoneBack}
use Rattle.bib_journal.proofs.replay.go_back_over.Given as goal

abbrev pub invariant-step : goal.invariant-step
invariant-step g l = record {
  turnable : AreTurnable l.left;
  gone : AreGoneBack l.steps l.left l.fn.db l.db;
}

abbrev pub decreases-step : goal.decreases-step
decreases-step g l = length l.left
