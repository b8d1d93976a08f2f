use Rattle.bib_journal.proofs.OtherEntries.{others-are-kept}
use Rattle.bib_journal.proofs.other_entries.other_entries_keep_their_records.Goals as goal

pub returns : goal.returns
returns c = others-are-kept
