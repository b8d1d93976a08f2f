use Rattle.extract_spec.proofs.Chains.{kept-closed, extract-means}
use Rattle.extract_spec.proofs.extracts.an_extract_keeps_its_records.Goals as goal

pub returns-clause-closed : goal.returns-clause-closed
returns-clause-closed c = kept-closed

pub returns-clause-means : goal.returns-clause-means
returns-clause-means c = extract-means
