use Rattle.bib_faults.proofs.EachHasFaults.{each-has-faults}
use Rattle.bib_faults.proofs.laws.each_text_has_its_faults.Goals as goal

pub returns : goal.returns
returns c = each-has-faults
