use Rattle.bib_journal.proofs.SeveralRuns.{runs-are-one, sessions-are-one, undoing-all-leads-to-first, redoing-all-leads-to-last}
use Rattle.bib_journal.proofs.laws.several_runs_are_one_session.Goals as goal

pub returns : goal.returns
returns c = record { one = runs-are-one; joined = sessions-are-one; first = undoing-all-leads-to-first; last = redoing-all-leads-to-last }
