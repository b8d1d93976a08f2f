use Rattle.bib_steps.proofs.Words.{◌≤◌, ◌-◌, length}
use Rattle.bib_steps.proofs.near.near.Given as goal

abbrev pub invariant-on : goal.invariant-on
invariant-on l = (l.from ≤ l.to) × (l.to ≤ length l.pieces)

abbrev pub decreases-on : goal.decreases-on
decreases-on l = length l.pieces - l.to
