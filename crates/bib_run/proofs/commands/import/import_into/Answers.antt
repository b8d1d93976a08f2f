use Rattle.bib_run.proofs.Words.{subst, IfOk-weaker, Text, AreAdditions}
use Rattle.ris_text.specs.Skipped.{skips}
use Rattle.bib_run.specs.ImportAnswer.{read, unread, HasAdded}
use Rattle.bib_run.proofs.SkippedLines.{are_skipped}
use Rattle.bib_run.proofs.UpToJournal.{up_to, up_to-weaker}
use Rattle.bib_run.proofs.commands.import.import_into.Goals as goal

pub returns-in_ok-told-in-Ok : goal.returns-in_ok-told-in-Ok
returns-in_ok-told-in-Ok c =
    let adds : AreAdditions c.args.command.now.latex c.args.command.now.strict c.args.session.now.steps.present c.args.text.now c.in-Ok.additions =
    subst (λ (file : Text). AreAdditions c.args.command.now.latex c.args.command.now.strict file c.args.text.now c.in-Ok.additions) c.database.ensures c.in-Ok.ensures.additions in
    let are = are_skipped c.args.command.now.latex c.args.command.now.strict c.args.session.now.steps.present c.args.text.now c.in-Ok.additions adds in
    IfOk-weaker c.add.result _ _
    (λ given h. up_to-weaker c.args.no_journal _ _ given
    (λ answer is. read c.in-Ok.additions adds (skips adds.reads.tree) are
    (subst (λ (told : Text). HasAdded c.in-Ok.additions told c.args.session.now answer) (c.in_ok-told-in-Ok.ensures (skips adds.reads.tree) are) is)) h)
    c.add.ensures

pub returns-in-Err : goal.returns-in-Err
returns-in-Err c = IfOk-weaker c.unread.result _ _ (λ answer h. up_to c.args.no_journal _ answer (unread c.in-Err.fault h.0 c.in-Err.ensures.refused h.1)) c.unread.ensures
