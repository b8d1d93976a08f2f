use Rattle.bib_answers.proofs.Words.{◌≡◌, ◌∙◌, subst, sym, IfOk-weaker, Text, OfReading}
use Rattle.bib_store.specs.Readings.{IsOpenFault}
use Rattle.bib_answers.specs.Lint.{opened, lint_answer, IsLintAnswer}
use Rattle.bib_answers.proofs.lint.answer_lint.Goals as goal

pub returns-in-Ok : goal.returns-in-Ok
returns-in-Ok c = IfOk-weaker c.lint_alone.result _ _ (λ answer h.
    let file = c.in-Ok.ensures.openable in
    opened file.0 file.1 (subst (λ (t : Text). OfReading t (λ r. answer ≡ lint_answer c.args.ignored.now c.args.cited.now c.args.name.now t r)) c.in-Ok.ensures.opened h file.0 file.1.reads))
    c.lint_alone.ensures

pub unread-requires : goal.unread-requires
unread-requires c some =
    subst (λ (t : Text). IsOpenFault t c.in-Err.unopened.fault.kind c.in-Err.unopened.fault.place) (sym (c.as_slice.ensures ∙ c.in-Err.ensures.returned some)) c.in-Err.ensures.fault

pub returns-in-Err : goal.returns-in-Err
returns-in-Err c = IfOk-weaker c.unread.result _ _ (λ answer h.
    subst (λ (t : Text). IsLintAnswer c.args.ignored.now c.args.cited.now c.args.name.now t answer) (c.as_slice.ensures ∙ c.in-Err.ensures.returned h.0) (h.1 c.args.ignored.now c.args.cited.now))
    c.unread.ensures
