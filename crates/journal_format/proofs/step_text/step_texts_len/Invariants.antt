use Rattle.journal_format.proofs.Words.{◌≡◌, ◌-◌, ◌^◌, min, take, sum_by, step_text_len}
use Rattle.journal_format.proofs.step_text.step_texts_len.Given as goal

abbrev pub invariant-step : goal.invariant-step
invariant-step l = l.len ≡ min (sum_by step_text_len (take l.step-index l.steps)) (2 ^ 64 - 1)
