use Rattle.bib_run.proofs.Words.{IfOk-weaker}
use Rattle.bib_run.specs.Inputs.{answered}
use Rattle.bib_run.proofs.commands.insert.answer_insert.Goals as goal

pub returns-in-Ok : goal.returns-in-Ok
returns-in-Ok c = IfOk-weaker c.insert_input-answer.result _ _ (λ answer h. answered _ c.in-Ok.ensures.opened h) c.insert_input-answer.ensures
