use Rattle.bib_faults.proofs.GoingOnLaws.{nothing-is-lost}
use Rattle.bib_faults.proofs.laws.no_byte_is_lost.Goals as goal

pub returns : goal.returns
returns c = nothing-is-lost
