use Rattle.bib_run.proofs.Words.{◌∙◌, [], ap, Text, answer_of}
use Rattle.bib_journal.specs.Kept.{kept}
use Rattle.bib_run.specs.Log.{listed}
use Rattle.bib_run.proofs.commands.log.answer_log.Goals as goal

pub returns-in_ok-log_text-in-Ok : goal.returns-in_ok-log_text-in-Ok
returns-in_ok-log_text-in-Ok c =
    listed (kept c.in-Ok.changes.past c.args.file.items c.in-Ok.changes.future) c.in-Ok.ensures.opened
    (c.done.ensures ∙ ap (λ (t : Text). answer_of t [] 0) (c.in_ok-log_text-in-Ok.ensures c.args.file.items))
