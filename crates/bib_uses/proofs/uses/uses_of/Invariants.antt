use Rattle.std.proofs.Common.{List, [], length, map}
use Rattle.bib_uses.specs.Uses.{Use}
use Rattle.bib_uses.specs.Seen.{AreAdded, use_seen}
use Rattle.bib_uses.proofs.uses.uses_of.Given as goal

abbrev pub invariant-fields : goal.invariant-fields
invariant-fields l = (new : List Use) → AreAdded l.rest (map use_seen l.uses.items) new → AreAdded l.initial.rest [] new

abbrev pub decreases-fields : goal.decreases-fields
decreases-fields l = length l.rest
