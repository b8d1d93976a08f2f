use Rattle.bib_tokens.proofs.Words.{◌≡◌, ◌≤◌, ◌-◌, false, length, take, have_part, test_of, OfReading}
use Rattle.bib_tokens.proofs.tokens.first_with.Given as goal

abbrev pub invariant-items : goal.invariant-items
invariant-items g l = OfReading l.db (λ r. (l.n ≤ length r.items) × (false ≡ have_part (test_of l.sought) (take l.n r.items)) × (l.met ≡ have_part (test_of l.watched) (take l.n r.items)))

abbrev pub decreases-items : goal.decreases-items
decreases-items g l = l.count - l.n
