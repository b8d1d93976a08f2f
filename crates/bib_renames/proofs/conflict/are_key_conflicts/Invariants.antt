use Rattle.std.proofs.Common.{take}
use Rattle.std.specs.List.{AllByRecursion}
use Rattle.bib_spec.specs.Reading.{Reading, Reads}
use Rattle.bib_renames.specs.Renamed.{IsKeyConflict}
use Rattle.bib_renames.proofs.conflict.are_key_conflicts.Given as goal

abbrev pub invariant-conflicts : goal.invariant-conflicts
invariant-conflicts g l = (rb : Reading) → Reads l.base rb → (ro : Reading) → Reads l.ours ro → (rt : Reading) → Reads l.theirs rt → AllByRecursion (IsKeyConflict rb ro rt) (take l.k l.conflicts)
