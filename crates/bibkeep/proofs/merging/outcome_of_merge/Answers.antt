use Rattle.bibkeep.proofs.Finishing.{new_tap, none_either, ran_merge}
use Rattle.bibkeep.proofs.merging.outcome_of_merge.Goals as goal

pub returns : goal.returns
returns c = ran_merge _ _ _ _ _ _ _ (new_tap _ _ _ (none_either _) c.output-out.ensures) c.run_merge-outcome.ensures
