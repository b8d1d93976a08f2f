use Rattle.bib_run.proofs.Words.{IfOk-weaker, turned}
use Rattle.bib_run.proofs.commands.turning.answer_redo.Goals as goal

pub returns-in-Ok : goal.returns-in-Ok
returns-in-Ok c = IfOk-weaker c.turned_answer.result _ _ (λ answer is. turned c.in-Ok.turned c.in-Ok.ensures.turned is) c.turned_answer.ensures
