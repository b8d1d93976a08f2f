use Rattle.bib_answers.proofs.Words.{rules}
use Rattle.bib_answers.specs.Check.{check_answer}
use Rattle.bib_answers.proofs.check.answer_check.Goals as goal

pub returns : goal.returns
returns c = c.answer_file.ensures check_answer (λ file given called. search rules)
