use Rattle.plain_text.proofs.PlainLemmas.{IsPrinted}
use Rattle.std.proofs.Common.{length}
use Rattle.plain_text.proofs.printing.printed.Given as goal

abbrev pub invariant-steps : goal.invariant-steps
invariant-steps l = IsPrinted l.text l.out.items l.rest l.stays l.depth

abbrev pub decreases-steps : goal.decreases-steps
decreases-steps l = length l.rest
