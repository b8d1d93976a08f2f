use Rattle.journal_format.proofs.Words.{◌≡◌, ◌-◌, ◌^◌, min}
use Rattle.journal_format.proofs.StepTextLemmas.{len_so_far}
use Rattle.journal_format.proofs.step_text.piece_texts_len.Given as goal

abbrev pub invariant-loop-piece : goal.invariant-loop-piece
invariant-loop-piece l = l.len ≡ min (len_so_far l.pieces l.piece-index) (2 ^ 64 - 1)
