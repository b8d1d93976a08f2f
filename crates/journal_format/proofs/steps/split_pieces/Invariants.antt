use Rattle.journal_format.proofs.PieceTexts.{ArePiecesRead}
use Rattle.journal_format.proofs.steps.split_pieces.Given as goal

abbrev pub invariant-piece : goal.invariant-piece
invariant-piece l = ArePiecesRead l.count l._n l.initial.rest l.pieces.items l.from l.rest
