use Rattle.edit_spec.proofs.MacroLaws.{introduce-macro-keeps}
use Rattle.edit_spec.proofs.renaming.introducing_a_macro_keeps_the_rest.Goals as goal

pub returns : goal.returns
returns c = introduce-macro-keeps
