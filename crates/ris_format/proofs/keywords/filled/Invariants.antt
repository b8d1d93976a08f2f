use Rattle.ris_format.proofs.Words.{◌≡◌, ◌++◌, drop, has_bytes}
use Rattle.std.proofs.Common.{map}
use Rattle.std.specs.Prelude.{filter}
use Rattle.ris_format.proofs.keywords.filled.Given as goal

abbrev pub invariant-loop-piece : goal.invariant-loop-piece
invariant-loop-piece l = map (λ w. w.now) l.words.items ++ filter has_bytes (map (λ p. p.now) (drop l.piece-index l.pieces)) ≡ filter has_bytes (map (λ p. p.now) l.pieces)
