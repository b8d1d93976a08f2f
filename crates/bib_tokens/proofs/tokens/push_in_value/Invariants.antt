use Rattle.bib_tokens.proofs.Words.{◌≡◌, length, take, tokens_seen, test_of}
use Rattle.bib_tokens.proofs.PlacedValues.{AreValueTokensTo}
use Rattle.bib_tokens.proofs.MetParts.{IsMetTo}
use Rattle.bib_tokens.proofs.tokens.push_in_value.Given as goal

abbrev pub invariant-parts : goal.invariant-parts
invariant-parts l =
    AreValueTokensTo (test_of l.sought) l.at l.value (tokens_seen l.initial.tokens.items) l.n (tokens_seen l.tokens.items) × IsMetTo (test_of l.watched) l.value l.n l.met
    × (take (length l.initial.tokens.items) l.tokens.items ≡ l.initial.tokens.items)
