use Rattle.bib_run.proofs.Words.{IfOk-weaker}
use Rattle.bib_answers.proofs.Refusals.{file_refused, file_answered}
use Rattle.bib_run.proofs.commands.ris.answer_ris.Goals as goal

pub returns-in-Err : goal.returns-in-Err
returns-in-Err c = IfOk-weaker c.unread.result _ _ (λ answer h. file_refused _ c.args.file.items _ _ answer c.in-Err.ensures.fault h) c.unread.ensures

pub returns-in-Ok : goal.returns-in-Ok
returns-in-Ok c = IfOk-weaker c.ris_in.result _ _ (λ answer h. file_answered _ c.args.file.items _ answer c.in-Ok.ensures.opened c.in-Ok.ensures.file h) c.ris_in.ensures
