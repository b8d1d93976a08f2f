use Rattle.bib_tokens.proofs.Words.{◌≡◌, ◌||◌, Bool, List, length, take, ℕ, Text, tokens_seen, ArePlacedFields, AreFieldTokens, IsMetIn, test_of}
use Rattle.bib_tokens.proofs.tokens.push_in_fields.Given as goal

abbrev pub invariant-fields : goal.invariant-fields
invariant-fields l =
    ArePlacedFields l.start l.rest
    × ((new : List (ℕ × Text)) → AreFieldTokens (test_of l.sought) l.start l.rest (tokens_seen l.tokens.items) new → AreFieldTokens (test_of l.sought) l.start l.initial.rest (tokens_seen l.initial.tokens.items) new)
    × ((met : Bool) → IsMetIn (test_of l.watched) l.rest met → IsMetIn (test_of l.watched) l.initial.rest (l.met || met))
    × (take (length l.initial.tokens.items) l.tokens.items ≡ l.initial.tokens.items)

abbrev pub decreases-fields : goal.decreases-fields
decreases-fields l = length l.rest
