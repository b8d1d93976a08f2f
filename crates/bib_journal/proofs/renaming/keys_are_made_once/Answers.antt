use Rattle.bib_journal.proofs.KeptRecords.{keys-are-made-once}
use Rattle.bib_journal.proofs.renaming.keys_are_made_once.Goals as goal

pub returns : goal.returns
returns c = keys-are-made-once
