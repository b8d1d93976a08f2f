use Rattle.std.proofs.Common.{sym, subst}
use Rattle.std.proofs.lemmas.Result.{IfOk-weaker}
use Rattle.bib_spec.specs.Text.{Text}
use Rattle.bib_store.specs.Readings.{OfReading}
use Rattle.bib_shelf.specs.Joined.{AreJoined}
use Rattle.bib_answers.specs.Names.{AnswersNames}
use Rattle.bib_run.specs.Answers.{key_word, template_word}
use Rattle.shelf_run.specs.Answers.{refused}
use Rattle.shelf_run.proofs.Shelves.{opened_answer}
use Rattle.shelf_run.proofs.answering.answer_names.Goals as goal

pub returns-in-Ok : goal.returns-in-Ok
returns-in-Ok c = IfOk-weaker c.names_in.result _ _ (λ answer h texts are.
    let now = subst (AreJoined texts) (sym c.in-Ok.ensures.opened) are in
    let depth = c.args.command.now.depth in
    opened_answer (AnswersNames depth (key_word c.args.command.now) (template_word c.args.command.now)) c.args.names.now texts c.in-Ok.shelf.text answer now.text (c.in-Ok.ensures.files texts are)
    (subst (λ (t : Text). OfReading t (λ r. AnswersNames depth (key_word c.args.command.now) (template_word c.args.command.now) r answer)) c.database.ensures
    (subst (λ (k : Text). OfReading c.database.result.now (λ r. AnswersNames depth (key_word c.args.command.now) k r answer)) c.word-template.ensures
    (subst (λ (k : Text). OfReading c.database.result.now (λ r. AnswersNames depth k c.word-template.result.now r answer)) c.word-key.ensures h))))
    c.names_in.ensures

pub returns-in-Err : goal.returns-in-Err
returns-in-Err c = IfOk-weaker c.unread_in.result _ _ (λ answer h texts are.
    refused c.in-Err.fault.kind c.in-Err.fault.place c.in-Err.fault.file h.0 (c.in-Err.ensures.fault texts are) h.1)
    c.unread_in.ensures
