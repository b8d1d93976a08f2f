use Rattle.bib_journal.proofs.SavedLoads.{what-is-saved-is-loaded}
use Rattle.bib_journal.proofs.saved_loads.what_is_saved_is_loaded.Goals as goal

pub returns : goal.returns
returns c = what-is-saved-is-loaded
