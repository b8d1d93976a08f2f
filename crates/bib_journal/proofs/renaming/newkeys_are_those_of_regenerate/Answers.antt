use Rattle.bib_journal.proofs.KeptRecords.{newkeys-are-those-of-regenerate}
use Rattle.bib_journal.proofs.renaming.newkeys_are_those_of_regenerate.Goals as goal

pub returns : goal.returns
returns c = newkeys-are-those-of-regenerate
