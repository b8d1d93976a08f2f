use Rattle.edit_spec.proofs.SetMacro.{set-macro-keeps, set-macro-replaces}
use Rattle.edit_spec.proofs.renaming.setting_a_macro_keeps_the_rest.Goals as goal

pub returns-clause-keeps : goal.returns-clause-keeps
returns-clause-keeps c = set-macro-keeps

pub returns-clause-replaces : goal.returns-clause-replaces
returns-clause-replaces c = set-macro-replaces
