use Rattle.bib_answers.proofs.Words.{rules, IfOk-weaker}
use Rattle.bib_answers.specs.Names.{names_answer}
use Rattle.bib_answers.proofs.names.answer_names.Goals as goal

pub returns : goal.returns
returns c =
    let pattern = c.in_ok-template.template in
    IfOk-weaker c.answer_file.result _ _
    (λ answer h. record { pattern = pattern; spells = c.in_ok-template.ensures; answers = h })
    (c.answer_file.ensures (names_answer c.args.depth c.args.key.now pattern) (λ file given called. search rules))
