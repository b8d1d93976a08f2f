use Rattle.std.proofs.Common.{◌≡◌, sym, subst}
use Rattle.std.proofs.lemmas.Result.{IfOk-weaker}
use Rattle.bib_shelf.specs.Joined.{AreJoined}
use Rattle.shelf_run.specs.Answers.{refused, shelf_answer}
use Rattle.shelf_run.proofs.Shelves.{opened_answer}
use Rattle.shelf_run.proofs.answering.answer_question.Goals as goal

pub question_answer-requires-clause-joined : goal.question_answer-requires-clause-joined
question_answer-requires-clause-joined c = (c.requires.joined.0, subst (AreJoined c.requires.joined.0) (sym c.in-Ok.ensures.opened) c.requires.joined.1)

pub returns-in-Ok : goal.returns-in-Ok
returns-in-Ok c = IfOk-weaker c.question_answer.result _ _ (λ answer h texts are.
    let now = subst (AreJoined texts) (sym c.in-Ok.ensures.opened) are in
    opened_answer (λ db now. now ≡ shelf_answer c.args.question c.args.command.now c.args.names.now texts db) c.args.names.now texts c.in-Ok.shelf.text answer now.text
    (c.in-Ok.ensures.files texts are) (h texts now))
    c.question_answer.ensures

pub returns-in-Err : goal.returns-in-Err
returns-in-Err c = IfOk-weaker c.unread_in.result _ _ (λ answer h texts are.
    refused c.in-Err.fault.kind c.in-Err.fault.place c.in-Err.fault.file h.0 (c.in-Err.ensures.fault texts are) h.1)
    c.unread_in.ensures
