use Rattle.bib_answers.proofs.Words.{rules}
use Rattle.bib_answers.specs.Cite.{cite_answer}
use Rattle.bib_answers.proofs.cite.answer_cite.Goals as goal

pub returns : goal.returns
returns c = c.answer_file.ensures (cite_answer c.args.strict c.args.keys.now c.args.min) (λ file given called. search rules)
