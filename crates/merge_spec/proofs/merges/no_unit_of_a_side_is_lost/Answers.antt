use Rattle.merge_spec.proofs.NothingLost.{nothing-of_ours_is_lost, nothing-of_theirs_is_lost}
use Rattle.merge_spec.proofs.merges.no_unit_of_a_side_is_lost.Goals as goal

pub returns-clause-ours : goal.returns-clause-ours
returns-clause-ours c = nothing-of_ours_is_lost

pub returns-clause-theirs : goal.returns-clause-theirs
returns-clause-theirs c = nothing-of_theirs_is_lost
