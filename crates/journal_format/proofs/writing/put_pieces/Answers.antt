use Rattle.journal_format.proofs.Written.{pieces_written}
use Rattle.journal_format.proofs.writing.put_pieces.Goals as goal

pub returns : goal.returns
returns c = pieces_written c.args.out.now.items c.piece.out.items c.args.pieces.now c.piece.piece-index c.piece-test.false c.piece.invariant
