use Rattle.edit_spec.proofs.Regenerate.{regenerate-keys-keeps, made-keys-differ, regenerating-again}
use Rattle.edit_spec.proofs.renaming.regenerating_keys_keeps_the_rest.Goals as goal

pub returns-clause-keeps : goal.returns-clause-keeps
returns-clause-keeps c = regenerate-keys-keeps

pub returns-clause-differ : goal.returns-clause-differ
returns-clause-differ c = made-keys-differ

pub returns-clause-again : goal.returns-clause-again
returns-clause-again c = regenerating-again
