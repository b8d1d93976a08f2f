use Rattle.bibkeep.specs.Program.EndsForWords.{named, unnamed}
use Rattle.bibkeep.proofs.answer_these.Goals as goal

pub returns-in-Ok : goal.returns-in-Ok
returns-in-Ok c = named _ c.in-Ok.ensures.ok c.answer.ensures

pub returns-in-Err : goal.returns-in-Err
returns-in-Err c = unnamed _ c.in-Err.ensures.err c.end_usage-status.ensures.status
