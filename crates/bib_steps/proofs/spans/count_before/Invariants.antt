use Rattle.bib_steps.proofs.Words.{◌<◌, ◌≤◌, ◌-◌, length, end_at}
use Rattle.bib_steps.proofs.spans.count_before.Given as goal

abbrev pub invariant-halves : goal.invariant-halves
invariant-halves l = (l.from ≤ l.to) × (l.to ≤ length l.places) × (0 < l.from → end_at l.places l.from < l.place)

abbrev pub decreases-halves : goal.decreases-halves
decreases-halves l = l.to - l.from
