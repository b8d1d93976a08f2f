use Rattle.bibtex_laws.proofs.OtherEdits.{edits-keep-other-lists}
use Rattle.bibtex_laws.proofs.other_entries.removing_and_adding_keep_other_lists.Goals as goal

pub returns : goal.returns
returns c = edits-keep-other-lists
