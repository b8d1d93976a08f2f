use Rattle.bib_answers.proofs.Words.{◌≡◌, ◌∙◌, rules, IfOk-weaker}
use Rattle.bib_answers.proofs.FaultLines.{all_lines}
use Rattle.bib_answers.proofs.lint.answer_all.Goals as goal

pub returns-in-Ok : goal.returns-in-Ok
returns-in-Ok c =
    let all = c.in-Ok.ensures.faults in
    let same : c.as_slice.result.now ≡ c.in-Ok.faults = search rules in
    IfOk-weaker c.answer_faults.result _ _
    (λ answer h. (all.0, all.1, h ∙ all_lines c.args.name.now c.args.file.now all.0 c.as_slice.result.now (same ∙ all.2)))
    c.answer_faults.ensures
