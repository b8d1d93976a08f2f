use Rattle.edit_spec.proofs.RenameKey.{rename-key-keeps}
use Rattle.edit_spec.proofs.renaming.renaming_a_key_keeps_the_rest.Goals as goal

pub returns : goal.returns
returns c = rename-key-keeps
