use Rattle.std.proofs.Common.{length}
use Rattle.bib_diff.specs.Agreeing.{HaveAllAlike}
use Rattle.bib_diff.proofs.agreeing.are_alike.Given as goal

abbrev pub invariant-fields : goal.invariant-fields
invariant-fields l = HaveAllAlike l.old l.new l.rest → HaveAllAlike l.old l.new l.initial.rest

abbrev pub decreases-fields : goal.decreases-fields
decreases-fields l = length l.rest
