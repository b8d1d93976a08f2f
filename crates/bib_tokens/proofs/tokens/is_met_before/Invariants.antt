use Rattle.bib_tokens.proofs.Words.{◌≡◌, ◌≤◌, ◌-◌, false, length, take, have_part, test_of, OfReading}
use Rattle.bib_tokens.proofs.tokens.is_met_before.Given as goal

abbrev pub invariant-items : goal.invariant-items
invariant-items g l = OfReading l.db (λ r. (l.k ≤ length r.items) × (false ≡ have_part (test_of l.watched) (take l.k r.items)))

abbrev pub decreases-items : goal.decreases-items
decreases-items g l = l.n - l.k
