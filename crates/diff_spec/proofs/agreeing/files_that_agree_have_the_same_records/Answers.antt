use Rattle.diff_spec.proofs.SameRecords.{same_records}
use Rattle.diff_spec.proofs.agreeing.files_that_agree_have_the_same_records.Goals as goal

pub returns : goal.returns
returns c = same_records
