use Rattle.bib_faults.proofs.GoingOnLaws.{first-is-reported}
use Rattle.bib_faults.proofs.laws.the_first_fault_is_reported.Goals as goal

pub returns : goal.returns
returns c = first-is-reported
