use Rattle.bib_answers.proofs.Words.{◌∙◌, sym, IfOk-weaker}
use Rattle.bib_answers.specs.Lint.{reading, other}
use Rattle.bib_answers.proofs.FaultLines.{one_line, past_reading}
use Rattle.bib_answers.proofs.lint.lint_fault.Goals as goal

pub returns-then-is_past_reading : goal.returns-then-is_past_reading
returns-then-is_past_reading c =
    IfOk-weaker c.answer_faults.result _ _
    (λ answer h. other (past_reading c.args.fault.kind (sym c.is_past_reading.ensures ∙ c.if-is_past_reading.true)) (h ∙ one_line c.args.name.now c.args.file.now c.args.fault))
    c.answer_faults.ensures

pub returns : goal.returns
returns c = IfOk-weaker c.answer_all.result _ _ (λ answer h. reading (sym c.is_past_reading.ensures ∙ c.if-is_past_reading.false) h.0 h.1 h.2) c.answer_all.ensures
