use Rattle.std.proofs.Common.{List, sym, ◌∙◌, subst}
use Rattle.std.proofs.lemmas.Result.{IfOk-weaker}
use Rattle.bib_data.specs.declared.request.Request.{Request}
use Rattle.bib_diff.specs.Leading.{Leads}
use Rattle.diff_answers.specs.Answers.{IsDiffAnswer}
use Rattle.diff_answers.proofs.answering.answer_diff.Goals as goal

pub returns-in-Ok : goal.returns-in-Ok
returns-in-Ok c = IfOk-weaker c.led.result _ _ (λ answer is.
    is c.args.old.now c.args.new.now
    (subst (λ (rs : List Request). Leads rs c.args.old.now c.args.new.now) (sym c.as_slice.ensures) c.in-Ok.ensures.leads)
    (λ agree. c.as_slice.ensures ∙ c.in-Ok.ensures.needed agree))
    c.led.ensures

pub returns-in-Err : goal.returns-in-Err
returns-in-Err c = IfOk-weaker c.unled.result _ _ (λ answer is. IsDiffAnswer.refused c.in-Err.fault is.0 c.in-Err.ensures.refused is.1) c.unled.ensures
