use Rattle.bib_run.proofs.Words.{IfOk-weaker}
use Rattle.bib_run.specs.Inputs.{answered, unopened}
use Rattle.bib_run.proofs.UpToJournal.{up_to, up_to-weaker}
use Rattle.bib_run.proofs.commands.edit.answer_edit.Goals as goal

pub returns-in-Ok : goal.returns-in-Ok
returns-in-Ok c = IfOk-weaker c.answer_script-answer.result _ _ (λ given h. up_to-weaker c.args.no_journal _ _ given (λ answer is. answered _ c.in-Ok.ensures.opened is) h) c.answer_script-answer.ensures

pub returns-in-Err : goal.returns-in-Err
returns-in-Err c = IfOk-weaker c.unopened.result _ _ (λ answer h. up_to c.args.no_journal _ answer (unopened (h _ _ c.in-Err.ensures.refused))) c.unopened.ensures
