use Rattle.edit_spec.proofs.OneEntry.{later-are-no-targets, rename-one-key-keeps, set-one-type-keeps, rename-fields-of-one-keeps, remove-one-keeps-others}
use Rattle.edit_spec.proofs.one_of_several.one_of_several_entries_changes_alone.Goals as goal

pub returns-clause-targets : goal.returns-clause-targets
returns-clause-targets c = later-are-no-targets

pub returns-clause-key : goal.returns-clause-key
returns-clause-key c = rename-one-key-keeps

pub returns-clause-kind : goal.returns-clause-kind
returns-clause-kind c = set-one-type-keeps

pub returns-clause-fields : goal.returns-clause-fields
returns-clause-fields c = rename-fields-of-one-keeps

pub returns-clause-removed : goal.returns-clause-removed
returns-clause-removed c = remove-one-keeps-others
