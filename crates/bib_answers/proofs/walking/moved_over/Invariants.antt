use Rattle.bib_answers.proofs.Words.{◌≡◌, ◌-◌, fold, min, OfReading, position_after}
use Rattle.bib_answers.specs.Walking.{IsSpot, stretch}
use Rattle.bib_answers.proofs.walking.moved_over.Given as goal

abbrev pub invariant-items : goal.invariant-items
invariant-items l = OfReading l.db (λ r. IsSpot r l.spot) × (l.at ≡ fold position_after l.fn.from (stretch l.start (min l.spot.place l.end) l.db))

abbrev pub decreases-items : goal.decreases-items
decreases-items l = l.count - l.spot.n
