use Rattle.bib_journal.proofs.Words.{◌≤◌, take, drop}
use Rattle.bib_journal.proofs.ReplayLemmas.{AreGoneBack}
use Rattle.bib_journal.proofs.packed_replay.go_back_between.Given as goal

abbrev pub invariant-step : goal.invariant-step
invariant-step g l = record {
  first : l.from ≤ l.n;
  last : l.n ≤ l.to;
  gone : AreGoneBack (drop l.from (take l.to l.steps)) (drop l.from (take l.n l.steps)) l.fn.db l.db;
}

abbrev pub decreases-step : goal.decreases-step
decreases-step g l = l.n
