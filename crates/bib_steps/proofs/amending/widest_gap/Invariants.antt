use Rattle.bib_steps.proofs.Words.{◌≤◌, length}
use Rattle.bib_steps.proofs.amending.widest_gap.Given as goal

abbrev pub invariant-loop-i : goal.invariant-loop-i
invariant-loop-i l = l.widest ≤ length l.pieces
