use Rattle.bib_scan.proofs.PlaceOfFault.{fault_of_file, fault_of_value}
use Rattle.bib_scan.proofs.laws.one_fault.Goals as goal

pub returns-clause-file : goal.returns-clause-file
returns-clause-file c = fault_of_file

pub returns-clause-value : goal.returns-clause-value
returns-clause-value c = fault_of_value
