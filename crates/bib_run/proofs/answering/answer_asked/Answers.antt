use Rattle.bib_run.proofs.Words.{IfOk-weaker}
use Rattle.bib_run.specs.Answers.{as_ever}
use Rattle.bib_run.proofs.answering.answer_asked.Goals as goal

pub returns : goal.returns
returns c = IfOk-weaker c.answer_question.result _ _ (λ answer h. as_ever c.if-command.false h) c.answer_question.ensures
