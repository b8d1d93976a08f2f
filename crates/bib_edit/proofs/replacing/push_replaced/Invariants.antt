use Rattle.bib_edit.proofs.Words.{◌≡◌, ◌++◌, drop, map, tokens_seen, replaced_by}
use Rattle.bib_edit.proofs.replacing.push_replaced.Given as goal

abbrev pub invariant-loop-token : goal.invariant-loop-token
invariant-loop-token l = l.pieces.items ++ map (replaced_by l.new) (tokens_seen (drop l.token-index l.tokens)) ≡ l.initial.pieces.items ++ map (replaced_by l.new) (tokens_seen l.tokens)
