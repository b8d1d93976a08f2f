use Rattle.bib_edit.proofs.Words.{◌≡◌, ◌+◌, drop, olds_len}
use Rattle.bib_edit.proofs.limits.old_len.Given as goal

abbrev pub invariant-loop-piece : goal.invariant-loop-piece
invariant-loop-piece l = l.len + olds_len (drop l.piece-index l.pieces) ≡ olds_len l.pieces
