use Rattle.bib_answers.proofs.Words.{rules}
use Rattle.bib_answers.specs.Show.{show_answer}
use Rattle.bib_answers.proofs.show.answer_show.Goals as goal

pub returns : goal.returns
returns c = c.answer_file.ensures (show_answer c.args.depth c.args.key.now) (λ file given called. search rules)
