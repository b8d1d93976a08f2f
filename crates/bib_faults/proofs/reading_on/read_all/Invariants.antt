use Rattle.std.proofs.Common.{length}
use Rattle.bib_faults.proofs.ReadingSteps.{IsReadSoFar}
use Rattle.bib_faults.proofs.reading_on.read_all.Given as goal

abbrev pub invariant-read : goal.invariant-read
invariant-read l = IsReadSoFar l.bytes l.rest l.faults.items

abbrev pub decreases-read : goal.decreases-read
decreases-read l = length l.rest
