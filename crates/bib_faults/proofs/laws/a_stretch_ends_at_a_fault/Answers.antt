use Rattle.bib_faults.proofs.GoingOnLaws.{stretches-end-at-faults}
use Rattle.bib_faults.proofs.laws.a_stretch_ends_at_a_fault.Goals as goal

pub returns : goal.returns
returns c = stretches-end-at-faults
