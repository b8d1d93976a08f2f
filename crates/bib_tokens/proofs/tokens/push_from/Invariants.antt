use Rattle.bib_tokens.proofs.Words.{◌≡◌, ◌≤◌, ◌-◌, length, take, OfReading, test_of, tokens_seen}
use Rattle.bib_tokens.proofs.PlacedItems.{AreTokensTo}
use Rattle.bib_tokens.proofs.MetParts.{IsMetFrom}
use Rattle.bib_tokens.proofs.tokens.push_from.Given as goal

abbrev pub invariant-items : goal.invariant-items
invariant-items g l =
    OfReading l.db (λ r. (l.k ≤ length r.items) × AreTokensTo (test_of l.sought) r l.n (tokens_seen l.initial.tokens.items) l.k l.at (tokens_seen l.tokens.items) × IsMetFrom (test_of l.watched) r.items l.n l.k l.met)
    × (take (length l.initial.tokens.items) l.tokens.items ≡ l.initial.tokens.items)

abbrev pub decreases-items : goal.decreases-items
decreases-items g l = l.count - l.k
