use Rattle.journal_format.proofs.Words.{◌≡◌, ◌++◌, take, flat_map, step_text}
use Rattle.journal_format.proofs.packed_steps.PackedSteps.put_each.Given as goal

abbrev pub invariant-step : goal.invariant-step
invariant-step l = l.out.items ≡ l.fn.out.items ++ flat_map step_text (take l.n l.self)
