use Rattle.edit_spec.proofs.RenameField.{rename-field-keeps}
use Rattle.edit_spec.proofs.RenamedRecords.{renamed-fields-are-inherited}
use Rattle.edit_spec.proofs.renaming.renaming_fields_keeps_the_rest.Goals as goal

pub returns-clause-keeps : goal.returns-clause-keeps
returns-clause-keeps c = rename-field-keeps

pub returns-clause-inherited : goal.returns-clause-inherited
returns-clause-inherited c = renamed-fields-are-inherited
