use Rattle.shelf_run.specs.Runs.{answered}
use Rattle.shelf_run.proofs.engine.run_shelf.Goals as goal

pub returns-in-Ok : goal.returns-in-Ok
returns-in-Ok g c = λ texts are. answered c.in-Ok.answer (c.in-Ok.ensures texts are) c.write_answer.ensures
