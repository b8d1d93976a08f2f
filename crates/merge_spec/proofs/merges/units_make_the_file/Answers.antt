use Rattle.merge_spec.proofs.UnitTexts.{units-are_the_file}
use Rattle.merge_spec.proofs.merges.units_make_the_file.Goals as goal

pub returns : goal.returns
returns c = units-are_the_file
