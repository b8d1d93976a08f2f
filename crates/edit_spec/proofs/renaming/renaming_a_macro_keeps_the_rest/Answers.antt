use Rattle.edit_spec.proofs.MacroLaws.{rename-macro-keeps}
use Rattle.edit_spec.proofs.renaming.renaming_a_macro_keeps_the_rest.Goals as goal

pub returns : goal.returns
returns c = rename-macro-keeps
