use Rattle.edit_spec.proofs.EditedReads.{edited-reads, applied-opens}
use Rattle.edit_spec.proofs.edits.an_accepted_edit_makes_a_file_that_opens.Goals as goal

pub returns-clause-reads : goal.returns-clause-reads
returns-clause-reads c = edited-reads

pub returns-clause-opens : goal.returns-clause-opens
returns-clause-opens c = applied-opens
