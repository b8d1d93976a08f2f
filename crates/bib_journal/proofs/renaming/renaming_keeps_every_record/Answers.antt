use Rattle.bib_journal.proofs.KeptRecords.{edit-keeps}
use Rattle.bib_journal.proofs.renaming.renaming_keeps_every_record.Goals as goal

pub returns : goal.returns
returns c = edit-keeps
