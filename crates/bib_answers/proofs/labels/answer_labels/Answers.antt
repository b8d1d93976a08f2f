use Rattle.bib_answers.proofs.Words.{rules}
use Rattle.bib_answers.specs.Labels.{labels_answer}
use Rattle.bib_answers.proofs.labels.answer_labels.Goals as goal

pub returns : goal.returns
returns c = c.answer_file.ensures (labels_answer c.args.depth c.args.keys.now) (λ file given called. search rules)
