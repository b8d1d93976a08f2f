use Rattle.bib_run.proofs.Words.{IfOk-weaker}
use Rattle.bib_run.specs.Answers.{names_as_ever, names_as_bibtex}
use Rattle.bib_run.proofs.answering.answer_printed_names.Goals as goal

pub returns-then-not-command : goal.returns-then-not-command
returns-then-not-command c =
    IfOk-weaker c.answer_names.result _ _ (λ answer h. names_as_ever c.if-not-command.true h)
    (rw c.word-key.ensures at (rw c.word-template.ensures at c.answer_names.ensures))

pub returns : goal.returns
returns c =
    IfOk-weaker c.answer_names_as_bibtex.result _ _ (λ answer h. names_as_bibtex c.if-not-command.false h)
    (rw c.word-key.ensures at (rw c.word-template.ensures at c.answer_names_as_bibtex.ensures))
