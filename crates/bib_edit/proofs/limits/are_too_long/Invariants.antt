use Rattle.bib_edit.proofs.Words.{◌≡◌, ◌+◌, drop, length, file_limit, olds_len, news_len}
use Rattle.bib_edit.proofs.limits.are_too_long.Given as goal

abbrev pub invariant-loop-piece : goal.invariant-loop-piece
invariant-loop-piece g l = l.room + news_len l.pieces + length l.db ≡ file_limit + olds_len l.pieces + news_len (drop l.piece-index l.pieces)
