use Rattle.bib_answers.proofs.Words.{rules}
use Rattle.bib_answers.specs.Extract.{extract_answer}
use Rattle.bib_answers.proofs.extract.answer_extract.Goals as goal

pub returns : goal.returns
returns c = c.answer_file.ensures (extract_answer c.args.keys.now) (λ file given called. search rules)
