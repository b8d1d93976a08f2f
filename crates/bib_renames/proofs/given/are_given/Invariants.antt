use Rattle.std.proofs.Common.{take}
use Rattle.std.specs.List.{AllByRecursion}
use Rattle.bib_spec.specs.Reading.{Reading, Reads}
use Rattle.bib_renames.specs.Renamed.{IsGiven}
use Rattle.bib_renames.proofs.given.are_given.Given as goal

abbrev pub invariant-given : goal.invariant-given
invariant-given g l = (rb : Reading) → Reads l.base rb → (ro : Reading) → Reads l.ours ro → (rt : Reading) → Reads l.theirs rt → AllByRecursion (IsGiven rb ro rt) (take l.k l.given)
