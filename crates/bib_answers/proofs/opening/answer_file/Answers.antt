use Rattle.bib_answers.proofs.Words.{IfOk-weaker}
use Rattle.bib_answers.proofs.Refusals.{file_refused, file_answered}
use Rattle.bib_answers.proofs.opening.answer_file.Goals as goal

pub returns-in-Err : goal.returns-in-Err
returns-in-Err g c answers says = IfOk-weaker c.unread.result _ _ (λ answer h. file_refused answers c.args.file.items _ _ answer c.in-Err.ensures.fault h) c.unread.ensures

pub returns-in-Ok : goal.returns-in-Ok
returns-in-Ok g c answers says =
    IfOk-weaker c.answer.result _ _ (λ answer h. file_answered answers c.args.file.items _ answer c.in-Ok.ensures.opened c.in-Ok.ensures.file h)
    (says _ c.answer.result c.answer.ensures)
