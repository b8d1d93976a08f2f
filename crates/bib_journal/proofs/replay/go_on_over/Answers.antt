use Rattle.bib_journal.proofs.ReplayLemmas.{none_gone_on}
use Rattle.bib_journal.proofs.replay.go_on_over.Goals as goal

pub step-init : goal.step-init
step-init g c = none_gone_on _ _ c.opens.ensures
