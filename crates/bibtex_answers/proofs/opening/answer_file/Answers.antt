use Rattle.std.proofs.Common.{◌∙◌, subst}
use Rattle.std.proofs.lemmas.Result.{IfOk-weaker}
use Rattle.bib_spec.specs.Texts.{IsOpenable}
use Rattle.bibtex_answers.proofs.Refusals.{file_answered}
use Rattle.bibtex_answers.proofs.opening.answer_file.Goals as goal

pub returns-in-Ok : goal.returns-in-Ok
returns-in-Ok g c answers says =
    IfOk-weaker c.answer_plain.result _ _
    (λ answer h. file_answered answers c.args.file.items _ answer (c.in-Ok.ensures.opened ∙ c.in_ok-text.ensures) (subst IsOpenable c.in_ok-text.ensures c.in-Ok.ensures.openable) h)
    (c.answer_plain.ensures answers says)
