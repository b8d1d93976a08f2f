use Rattle.bibkeep.proofs.Finishing.{new_tap, none_either, ran_between}
use Rattle.bibkeep.proofs.outcome_of_sources.Goals as goal

pub returns : goal.returns
returns c = ran_between _ _ _ _ _ (new_tap _ _ _ (none_either _) c.output-out.ensures) c.run_read-outcome.ensures
