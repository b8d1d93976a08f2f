use Rattle.bib_journal.proofs.UntouchedItems.{items-are-kept}
use Rattle.bib_journal.proofs.untouched_items.items_stay_as_they_are.Goals as goal

pub returns : goal.returns
returns c = items-are-kept
