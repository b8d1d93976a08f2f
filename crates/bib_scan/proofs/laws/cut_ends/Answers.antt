use Rattle.bib_scan.proofs.PlaceOfFault.{file_cut, value_cut}
use Rattle.bib_scan.proofs.laws.cut_ends.Goals as goal

pub returns-clause-file : goal.returns-clause-file
returns-clause-file c = file_cut

pub returns-clause-value : goal.returns-clause-value
returns-clause-value c = value_cut
