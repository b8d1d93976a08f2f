use Rattle.extract_spec.proofs.ExtractMeans.{closed-mean_alike}
use Rattle.extract_spec.proofs.extracts.closed_entries_keep_their_records.Goals as goal

pub returns : goal.returns
returns c = closed-mean_alike
