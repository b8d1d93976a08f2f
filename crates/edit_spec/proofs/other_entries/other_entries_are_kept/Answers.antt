use Rattle.edit_spec.proofs.OtherEntries.{remove_entry-keeps_others, add_entry-keeps_others}
use Rattle.edit_spec.proofs.AddedAfter.{add_many-keeps_others}
use Rattle.edit_spec.proofs.other_entries.other_entries_are_kept.Goals as goal

pub returns-clause-removed : goal.returns-clause-removed
returns-clause-removed c = remove_entry-keeps_others

pub returns-clause-added : goal.returns-clause-added
returns-clause-added c = add_entry-keeps_others

pub returns-clause-many : goal.returns-clause-many
returns-clause-many c = add_many-keeps_others
