use Rattle.std.proofs.Common.{length}
use Rattle.bib_definitions.specs.MacrosSeen.{macros_seen}
use Rattle.bib_sayings.proofs.Agreeing.{IsAgreedTo}
use Rattle.bib_sayings.proofs.entries.tables_agree.Given as goal

abbrev pub invariant-fields : goal.invariant-fields
invariant-fields l = IsAgreedTo (macros_seen l.macros_a) (macros_seen l.macros_b) l.a l.b l.initial.rest l.rest

abbrev pub decreases-fields : goal.decreases-fields
decreases-fields l = length l.rest
