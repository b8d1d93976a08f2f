use Rattle.bib_answers.proofs.Words.{◌≡◌, None, length, take, OfReading, IsKnown}
use Rattle.bib_answers.specs.Raw.{standing_of}
use Rattle.bib_answers.proofs.StandingItems.{standings}
use Rattle.bib_answers.proofs.standings.standings_alone.Given as goal

abbrev pub invariant-items : goal.invariant-items
invariant-items l = IsKnown l.db l.known × OfReading l.db (λ r. l.all.items ≡ take l.m (standings (standing_of None r) (length r.items)))
