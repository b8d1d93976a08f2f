use Rattle.bib_journal.proofs.Words.{spot_within}
use Rattle.bib_journal.proofs.text_len.edited_len.Goals as goal

pub edited_piece_len-requires : goal.edited_piece_len-requires
edited_piece_len-requires c = spot_within c.args.spot.position c.args.spot.byte c.args.pieces.now c.index-pieces-spot.result c.requires.spot c.index-pieces-spot.is

pub returns : goal.returns
returns c = λ label short limit. c.edited_piece_len.ensures label c.args.pieces.now c.args.spot.position c.requires.spot c.index-pieces-spot.is short limit
