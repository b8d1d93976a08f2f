use Rattle.bib_faults.proofs.GoingOnLaws.{no-faults-where-read}
use Rattle.bib_faults.proofs.laws.faults_are_where_no_reading_is.Goals as goal

pub returns : goal.returns
returns c = no-faults-where-read
