use Rattle.journal_format.proofs.Words.{◌∙◌}
use Rattle.journal_format.proofs.PieceTexts.{piece_read}
use Rattle.journal_format.proofs.pieces.split_piece.Goals as goal

pub returns-clause-read : goal.returns-clause-read
returns-clause-read c =
    piece_read c.args.from c.in_ok-place.place c.in_ok-place.old_len c.in_ok-place.new_len c.args.text.now c.in_ok-place.rest.now c.in_ok-bytes.bytes.now c.in_ok-bytes.after.now
    c.in_ok-old.old c.in_ok-new.new c.in_ok-place.ensures.read c.in_ok-bytes.ensures.read.0 c.in_ok-bytes.ensures.read.1
    (c.in_ok-old.ensures ∙ c.split_at.ensures.front) (c.in_ok-new.ensures ∙ c.split_at.ensures.back)
