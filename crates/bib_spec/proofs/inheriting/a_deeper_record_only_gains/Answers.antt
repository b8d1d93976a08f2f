use Rattle.bib_spec.proofs.Lineages.{deeper-records-only-gain}
use Rattle.bib_spec.proofs.inheriting.a_deeper_record_only_gains.Goals as goal

pub returns : goal.returns
returns c = deeper-records-only-gain
