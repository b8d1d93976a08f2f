use Rattle.bib_run.proofs.Words.{◌≡◌, Some, None, IfOk-weaker, asked_by_words}
use Rattle.bib_run.specs.EditAnswer.{said, bad}
use Rattle.bib_run.proofs.UpToJournal.{up_to, up_to-weaker}
use Rattle.bib_run.proofs.commands.edit.edit_by_words.Goals as goal

pub returns-in-Some : goal.returns-in-Some
returns-in-Some c =
    let asked : asked_by_words c.args.words.now ≡ Some c.as_slice.result.now = cc (c.in_ok-requests.ensures.said, c.in-Some.is, c.as_slice.ensures) in
    IfOk-weaker c.edit_alone.result _ _ (λ given h. up_to-weaker c.args.no_journal _ _ given (λ answer is. said c.as_slice.result.now asked is) h) c.edit_alone.ensures

pub returns-in-None : goal.returns-in-None
returns-in-None c =
    let none : asked_by_words c.args.words.now ≡ None = cc (c.in_ok-requests.ensures.said, c.in-None.is) in
    IfOk-weaker c.bad_words.result _ _ (λ answer h. up_to c.args.no_journal _ answer (bad none h)) c.bad_words.ensures
