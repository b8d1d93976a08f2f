use Rattle.bib_run.proofs.Words.{◌≡◌, ◌++◌, take, flat_map, step_line}
use Rattle.bib_run.proofs.commands.log.add_steps.Given as goal

abbrev pub invariant-step : goal.invariant-step
invariant-step l = l.out.items ≡ l.initial.out.items ++ flat_map (step_line l.word) (take l.step-index l.steps)
