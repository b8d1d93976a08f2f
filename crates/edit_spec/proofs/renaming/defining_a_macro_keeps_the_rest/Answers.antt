use Rattle.edit_spec.proofs.DefineMacro.{define-macro-keeps}
use Rattle.edit_spec.proofs.renaming.defining_a_macro_keeps_the_rest.Goals as goal

pub returns : goal.returns
returns c = define-macro-keeps
