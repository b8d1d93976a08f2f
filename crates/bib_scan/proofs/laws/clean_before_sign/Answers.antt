use Rattle.bib_scan.proofs.CleanLaws.{clean_before_sign}
use Rattle.bib_scan.proofs.laws.clean_before_sign.Goals as goal

pub returns : goal.returns
returns c t = clean_before_sign t
