use Rattle.std.proofs.Common.{◌∙◌, [], Ok, Err, ap}
use Rattle.std.proofs.lemmas.Result.{IfOk-weaker}
use Rattle.bib_spec.specs.Text.{Text}
use Rattle.bib_spec.specs.Records.{entries_of}
use Rattle.bib_answers.specs.Outcome.{answer_of}
use Rattle.bibtex_answers.proofs.LabelLines.{told_of_records}
use Rattle.bibtex_answers.proofs.labels.labels_told.Goals as goal

pub returns-in_ok-lines_of-in-Ok : goal.returns-in_ok-lines_of-in-Ok
returns-in_ok-lines_of-in-Ok c r reads records have =
    told_of_records (entries_of r) c.args.list.now records c.done.result (Ok c.in-Ok.entries.items) have (c.in-Ok.ensures.entries r reads)
    (c.done.ensures ∙ ap (λ (t : Text). answer_of t [] 0) c.in_ok-lines_of-in-Ok.ensures)

pub returns-in-Err : goal.returns-in-Err
returns-in-Err c = IfOk-weaker c.name_fault_answer.result _ _
    (λ answer h r reads records have. told_of_records (entries_of r) c.args.list.now records answer (Err c.in-Err.fault) have (c.in-Err.ensures.fault h.0 r reads) h.1)
    c.name_fault_answer.ensures
