use Rattle.std.proofs.Common.{◌+◌, ◌-◌, length}
use Rattle.bib_entries.specs.EntryTable.{HaveTheSame}
use Rattle.bib_entries.proofs.entry_table.make_room.Given as goal

abbrev pub invariant-grow : goal.invariant-grow
invariant-grow l = HaveTheSame l.initial.crossrefs.items l.crossrefs.items

abbrev pub decreases-grow : goal.decreases-grow
decreases-grow l = l.id + 1 - length l.crossrefs.items
