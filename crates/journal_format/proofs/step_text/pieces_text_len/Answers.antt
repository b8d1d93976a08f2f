use Rattle.journal_format.proofs.Words.{arith}
use Rattle.journal_format.proofs.StepTextLemmas.{pieces_len}
use Rattle.journal_format.proofs.step_text.pieces_text_len.Goals as goal

pub returns : goal.returns
returns c = omega (arith, c.saturating_add.ensures, c.piece_texts_len.ensures, c.decimal_len.ensures.value, pieces_len c.args.pieces.now)
