use Rattle.std.proofs.Common.{rules}
use Rattle.bibtex_answers.specs.Labels.{labels_answer}
use Rattle.bibtex_answers.proofs.labels.answer_labels_as_bibtex.Goals as goal

pub returns : goal.returns
returns c = c.answer_file.ensures (labels_answer c.args.keys.now) (λ file given called. search rules)
