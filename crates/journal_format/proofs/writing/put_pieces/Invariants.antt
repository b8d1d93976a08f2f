use Rattle.journal_format.proofs.Words.{◌≡◌, ◌++◌, ◌∷◌, [], length, take, decimal, flat_map, line_feed, piece_text}
use Rattle.journal_format.proofs.writing.put_pieces.Given as goal

abbrev pub invariant-piece : goal.invariant-piece
invariant-piece l = l.out.items ≡ (l.fn.out.items ++ (decimal (length l.pieces) ++ line_feed ∷ [])) ++ flat_map piece_text (take l.piece-index l.pieces)
