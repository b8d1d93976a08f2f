use Rattle.bib_pieces.proofs.PieceLoops.{IsReversed}
use Rattle.bib_pieces.proofs.reversing.reverse_from.Given as goal

abbrev pub invariant-loop-piece : goal.invariant-loop-piece
invariant-loop-piece l = IsReversed l.from l.new_from l.pieces l.back.items l.end l.new_end l.piece-index
