use Rattle.merge_spec.proofs.ConflictsTold.{conflicts-are_all_told}
use Rattle.merge_spec.proofs.merges.each_pair_of_versions_is_a_conflict.Goals as goal

pub returns : goal.returns
returns c = conflicts-are_all_told
