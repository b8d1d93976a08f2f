use Rattle.bib_journal.proofs.SeveralRuns.{one-opening}
use Rattle.bib_journal.proofs.laws.a_journal_keeps_one_history.Goals as goal

pub returns : goal.returns
returns c = one-opening
