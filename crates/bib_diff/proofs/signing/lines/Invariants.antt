use Rattle.std.proofs.Common.{length}
use Rattle.bib_diff.proofs.signing.lines.Given as goal

abbrev pub decreases-fields : goal.decreases-fields
decreases-fields l = length l.rest
