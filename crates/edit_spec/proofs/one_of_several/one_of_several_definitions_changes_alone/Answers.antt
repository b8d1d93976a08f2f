use Rattle.edit_spec.proofs.OneDefinition.{set-one-definition-keeps, set-one-definition-replaces, undefine-one-keeps}
use Rattle.edit_spec.proofs.one_of_several.one_of_several_definitions_changes_alone.Goals as goal

pub returns-clause-set : goal.returns-clause-set
returns-clause-set c = set-one-definition-keeps

pub returns-clause-replaces : goal.returns-clause-replaces
returns-clause-replaces c = set-one-definition-replaces

pub returns-clause-removed : goal.returns-clause-removed
returns-clause-removed c = undefine-one-keeps
