use Rattle.bib_scan.proofs.Words.{name_limit}
use Rattle.bib_scan.proofs.OneReading.{one_reading}
use Rattle.bib_scan.proofs.laws.one_reading.Goals as goal

pub returns : goal.returns
returns c file db other = one_reading name_limit file db other
