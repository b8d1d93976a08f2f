use Rattle.bib_pieces.proofs.PieceLoops.{IsFitting}
use Rattle.bib_pieces.proofs.fitting.fits.Given as goal

abbrev pub invariant-loop-piece : goal.invariant-loop-piece
invariant-loop-piece l = IsFitting l.at l.pieces l.bytes l.end l.piece-index
