use Rattle.bib_faults.proofs.GoingOnLaws.{places-rise}
use Rattle.bib_faults.proofs.laws.places_of_faults_rise.Goals as goal

pub returns : goal.returns
returns c = places-rise
