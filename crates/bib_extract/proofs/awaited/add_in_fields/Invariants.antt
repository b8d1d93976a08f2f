use Rattle.std.proofs.Common.{length}
use Rattle.bib_extract.specs.Awaited.{Map, GainsFrom, HaveValues}
use Rattle.bib_extract.proofs.awaited.add_in_fields.Given as goal

abbrev pub invariant-fields : goal.invariant-fields
invariant-fields l = HaveValues l.rest × ((new : Map) → GainsFrom l.rest l.names new → GainsFrom l.initial.rest l.initial.names new)

abbrev pub decreases-fields : goal.decreases-fields
decreases-fields l = length l.rest
