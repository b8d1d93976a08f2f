use Rattle.edit_spec.proofs.MacroLaws.{inline-macro-keeps}
use Rattle.edit_spec.proofs.renaming.inlining_a_macro_keeps_the_rest.Goals as goal

pub returns : goal.returns
returns c = inline-macro-keeps
