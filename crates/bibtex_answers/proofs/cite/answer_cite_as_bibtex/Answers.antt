use Rattle.std.proofs.Common.{rules}
use Rattle.bibtex_answers.specs.Cite.{cite_answer}
use Rattle.bibtex_answers.proofs.cite.answer_cite_as_bibtex.Goals as goal

pub returns : goal.returns
returns c = c.answer_file.ensures (cite_answer c.args.strict c.args.keys.now c.args.min) (λ file given called. search rules)
