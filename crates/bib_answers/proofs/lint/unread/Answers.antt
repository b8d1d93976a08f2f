use Rattle.bib_answers.proofs.Words.{◌∙◌, sym, IfOk-weaker}
use Rattle.bib_answers.proofs.FaultLines.{fault_answer, no_memory}
use Rattle.bib_answers.proofs.lint.unread.Goals as goal

pub returns : goal.returns
returns c =
    let told = sym c.is_memory.ensures ∙ c.if-is_memory.false in
    let some = no_memory c.args.fault.kind told in
    IfOk-weaker c.lint_fault.result _ _ (λ answer h. (some, λ ignored cited. fault_answer ignored cited c.args.name.now c.args.file.now c.args.fault answer told (c.requires some) h)) c.lint_fault.ensures
