use Rattle.bib_pieces.proofs.PieceLoops.{IsApplied}
use Rattle.bib_pieces.proofs.applying.apply.Given as goal

abbrev pub invariant-loop-piece : goal.invariant-loop-piece
invariant-loop-piece l = IsApplied l.at l.pieces l.bytes l.out.items l.end l.piece-index
