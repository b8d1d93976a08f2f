use Rattle.bib_answers.proofs.Words.{◌∙◌, ap₂, zip, flat_map, IfOk-weaker, entries_of, labels_of, keyed_line, records_at}
use Rattle.bib_answers.proofs.LabelLines.{lines_of_rows}
use Rattle.bib_answers.proofs.labels.lines_of.Goals as goal

pub returns : goal.returns
returns c = IfOk-weaker c.label_lines.result _ _ (λ text h r reads.
    h ∙ ap₂ (λ bases keys. flat_map keyed_line (zip (labels_of bases) keys)) c.as_slice.ensures.value c.as_slice-2.ensures.value
    ∙ lines_of_rows (records_at c.args.depth (entries_of r) c.args.list.now) _ _ (c.in_ok-rows.ensures r reads))
    c.label_lines.ensures
