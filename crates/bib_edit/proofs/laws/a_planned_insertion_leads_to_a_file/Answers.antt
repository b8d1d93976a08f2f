use Rattle.bib_edit.proofs.Inserted.{planned-lead, planned-open}
use Rattle.bib_edit.proofs.laws.a_planned_insertion_leads_to_a_file.Goals as goal

pub returns-clause-lead : goal.returns-clause-lead
returns-clause-lead c = planned-lead

pub returns-clause-opens : goal.returns-clause-opens
returns-clause-opens c = planned-open
