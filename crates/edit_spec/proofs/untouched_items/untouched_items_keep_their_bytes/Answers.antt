use Rattle.edit_spec.proofs.UntouchedItems.{untouched_items-stay, moved_entry-stays, moved_one-stays}
use Rattle.edit_spec.proofs.untouched_items.untouched_items_keep_their_bytes.Goals as goal

pub returns-clause-items : goal.returns-clause-items
returns-clause-items c = untouched_items-stay

pub returns-clause-moved : goal.returns-clause-moved
returns-clause-moved c = moved_entry-stays

pub returns-clause-moved_one : goal.returns-clause-moved_one
returns-clause-moved_one c = moved_one-stays
