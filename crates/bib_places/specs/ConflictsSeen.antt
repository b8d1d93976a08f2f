-- The conflicts of a merge in the code.
use Rattle.std.specs.Prelude.{map}
use Rattle.merge_spec.specs.Conflicts as conflicts
use Rattle.bib_fields.specs.PartsSeen.{part_seen}
use Rattle.bib_places.specs.declared.conflicts.Change.{Change}
use Rattle.bib_places.specs.declared.conflicts.Change.TheVariants as change
use Rattle.bib_places.specs.declared.conflicts.Conflict.{Conflict}
use Rattle.bib_places.specs.OwnedLabels.{owned_seen}

-- how two sides came into conflict, as the definitions have it
abbrev pub change_seen : Change → conflicts.Change
change_seen (change.Changed parts) = conflicts.Changed (map part_seen parts)
change_seen change.BothAdded = conflicts.BothAdded
change_seen change.RemovedByOurs = conflicts.RemovedByOurs
change_seen change.RemovedByTheirs = conflicts.RemovedByTheirs

-- a conflict, as the definitions have it
abbrev pub conflict_seen : Conflict → conflicts.Conflict
conflict_seen c = record { change = change_seen c.change; label = owned_seen c.label }
