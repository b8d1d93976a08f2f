use Rattle.bib_edit.proofs.Words.{◌≡◌, ◌+◌, drop, tokens_seen, covered}
use Rattle.bib_edit.proofs.replacing.covered.Given as goal

abbrev pub invariant-loop-token : goal.invariant-loop-token
invariant-loop-token l = l.len + covered (tokens_seen (drop l.token-index l.tokens)) ≡ covered (tokens_seen l.tokens)
