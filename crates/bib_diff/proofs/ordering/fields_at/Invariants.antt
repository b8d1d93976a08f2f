use Rattle.std.proofs.Common.{length}
use Rattle.bib_diff.proofs.ordering.fields_at.Given as goal

abbrev pub decreases-fields : goal.decreases-fields
decreases-fields l = length l.rest
