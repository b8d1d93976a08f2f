use Rattle.bib_faults.proofs.GoingOnLaws.{whole-items-are-read}
use Rattle.bib_faults.proofs.laws.a_whole_item_is_read.Goals as goal

pub returns : goal.returns
returns c = whole-items-are-read
