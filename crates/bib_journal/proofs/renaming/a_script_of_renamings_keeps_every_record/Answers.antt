use Rattle.bib_journal.proofs.KeptRecords.{requests-keep}
use Rattle.bib_journal.proofs.renaming.a_script_of_renamings_keeps_every_record.Goals as goal

pub returns : goal.returns
returns c = requests-keep
