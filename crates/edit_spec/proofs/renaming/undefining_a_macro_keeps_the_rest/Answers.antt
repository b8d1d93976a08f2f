use Rattle.edit_spec.proofs.UndefineMacro.{undefine-macro-keeps}
use Rattle.edit_spec.proofs.renaming.undefining_a_macro_keeps_the_rest.Goals as goal

pub returns : goal.returns
returns c = undefine-macro-keeps
