use Rattle.bibkeep.proofs.Finishing.{new_tap, none_either, ran_together}
use Rattle.bibkeep.proofs.outcome_of_joined.Goals as goal

pub returns : goal.returns
returns c =
    let joined = c.requires.joined in
    ran_together _ _ joined.0 _ _ _ c.requires.names (new_tap _ _ _ (none_either _) c.output-out.ensures) (c.run_shelf-outcome.ensures joined.0 joined.1)
