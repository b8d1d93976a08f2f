use Rattle.bib_store.proofs.Words.{length}
use Rattle.bib_store.proofs.following_runs.+follow_runs.Given as goal

abbrev pub decreases-follow_runs : goal.decreases-follow_runs
decreases-follow_runs g l = length l.starts.now
