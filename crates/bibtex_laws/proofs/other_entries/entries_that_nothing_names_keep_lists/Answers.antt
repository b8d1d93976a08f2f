use Rattle.bibtex_laws.proofs.OtherEntries.{other-entries-keep-lists}
use Rattle.bibtex_laws.proofs.other_entries.entries_that_nothing_names_keep_lists.Goals as goal

pub returns : goal.returns
returns c = other-entries-keep-lists
