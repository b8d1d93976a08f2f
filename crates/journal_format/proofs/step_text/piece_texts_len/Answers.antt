use Rattle.journal_format.proofs.Words.{◌-◌, ◌^◌, ℕ, min, ◌∙◌, ap}
use Rattle.journal_format.proofs.StepTextLemmas.{len_all}
use Rattle.journal_format.proofs.step_text.piece_texts_len.Goals as goal

pub returns : goal.returns
returns c = c.loop-piece.invariant ∙ ap (λ (n : ℕ). min n (2 ^ 64 - 1)) (len_all c.args.pieces.now c.loop-piece.piece-index c.loop-piece-test.false)
