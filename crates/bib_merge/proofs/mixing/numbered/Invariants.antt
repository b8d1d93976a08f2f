use Rattle.std.proofs.Common.{length}
use Rattle.bib_merge.proofs.mixing.numbered.Given as goal

abbrev pub decreases-fields : goal.decreases-fields
decreases-fields l = length l.rest
