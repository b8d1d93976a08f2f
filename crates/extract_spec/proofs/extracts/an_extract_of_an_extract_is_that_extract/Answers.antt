use Rattle.extract_spec.proofs.ExtractOnce.{extract-once}
use Rattle.extract_spec.proofs.extracts.an_extract_of_an_extract_is_that_extract.Goals as goal

pub returns : goal.returns
returns c = extract-once
