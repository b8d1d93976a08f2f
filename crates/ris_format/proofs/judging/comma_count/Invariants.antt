use Rattle.ris_format.proofs.PieceSteps.{AreCommasSoFar}
use Rattle.ris_format.proofs.judging.comma_count.Given as goal

abbrev pub invariant-loop-byte : goal.invariant-loop-byte
invariant-loop-byte l = record { told : AreCommasSoFar l.text l.count l.byte-index l.braces.opened l.braces.closed }
