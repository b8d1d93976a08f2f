use Rattle.bib_scan.proofs.Words.{name_limit, IsValueWithin}
use Rattle.bib_spec.specs.Reading.{HasReading}
use Rattle.bib_scan.proofs.PlaceLaws.{one_place}
use Rattle.bib_scan.proofs.PlaceOfFault.{file_or_failing, value_or_failing}
use Rattle.bib_scan.proofs.laws.one_place.Goals as goal

pub returns-clause-file : goal.returns-clause-file
returns-clause-file c = file_or_failing

pub returns-clause-value : goal.returns-clause-value
returns-clause-value c = value_or_failing

pub returns-clause-one_in_file : goal.returns-clause-one_in_file
returns-clause-one_in_file c = one_place HasReading

pub returns-clause-one_in_value : goal.returns-clause-one_in_value
returns-clause-one_in_value c = one_place (IsValueWithin name_limit)
