use Rattle.bib_faults.proofs.GoingOnLaws.{one-list-of-faults}
use Rattle.bib_faults.proofs.laws.faults_are_one_list.Goals as goal

pub returns : goal.returns
returns c = one-list-of-faults
