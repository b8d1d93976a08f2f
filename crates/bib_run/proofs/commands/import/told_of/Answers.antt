use Rattle.bib_run.proofs.Words.{◌∙◌, length, ap, IfOk-weaker}
use Rattle.std.proofs.Common.{List}
use Rattle.bib_data.specs.declared.edit.NewEntry.{NewEntry}
use Rattle.bib_run.specs.ImportAnswer.{added_line}
use Rattle.bib_run.proofs.SkippedLines.{told_with, told_without}
use Rattle.bib_run.proofs.commands.import.told_of.Goals as goal

pub returns-then-listed : goal.returns-then-listed
returns-then-listed c =
    IfOk-weaker c.with_skipped.result _ _
    (λ told h lines are.
    told_with c.args.listed c.args.additions.now c.args.text.now c.in_ok-counts.counts told lines c.if-listed.true
    (c.in_ok-counts.ensures ∙ ap (λ (es : List NewEntry). added_line (length es) c.args.additions.now.skipped) c.as_slice.ensures) (h lines are))
    c.with_skipped.ensures

pub returns : goal.returns
returns c = λ lines are.
    told_without c.args.listed c.args.additions.now c.args.text.now c.in_ok-counts.counts lines c.if-listed.false
    (c.in_ok-counts.ensures ∙ ap (λ (es : List NewEntry). added_line (length es) c.args.additions.now.skipped) c.as_slice.ensures)
