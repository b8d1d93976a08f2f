use Rattle.edit_spec.proofs.SetType.{set-type-keeps}
use Rattle.edit_spec.proofs.types.a_type_is_set_and_all_else_kept.Goals as goal

pub returns : goal.returns
returns c = set-type-keeps
