use Rattle.bib_edit.proofs.EntryNeighbours.{moved-neighbours}
use Rattle.bib_edit.proofs.laws.a_moved_entry_stands_beside_the_other.Goals as goal

pub returns : goal.returns
returns c = moved-neighbours
