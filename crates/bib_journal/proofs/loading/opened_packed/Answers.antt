use Rattle.bib_journal.proofs.TurnableSteps.{turnable_past, turnable_future}
use Rattle.bib_journal.proofs.loading.opened_packed.Goals as goal

pub returns-in-Ok-packed_with-clause-past : goal.returns-in-Ok-packed_with-clause-past
returns-in-Ok-packed_with-clause-past g c = turnable_past _ _ c.in-Ok-packed_with.ensures.said.says.good.steps

pub returns-in-Ok-packed_with-clause-future : goal.returns-in-Ok-packed_with-clause-future
returns-in-Ok-packed_with-clause-future g c = turnable_future _ _ c.in-Ok-packed_with.ensures.said.says.good.steps
