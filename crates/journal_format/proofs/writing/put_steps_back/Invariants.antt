use Rattle.journal_format.proofs.Words.{◌≡◌, ◌++◌, length, reverse, flat_map, step_text}
use Rattle.journal_format.proofs.writing.put_steps_back.Given as goal

abbrev pub invariant-step : goal.invariant-step
invariant-step l = l.out.items ++ flat_map step_text (reverse l.left) ≡ l.fn.out.items ++ flat_map step_text (reverse l.steps)

abbrev pub decreases-step : goal.decreases-step
decreases-step l = length l.left
