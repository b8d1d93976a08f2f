use Rattle.std.proofs.Common.{rules}
use Rattle.bibtex_answers.specs.Names.{names_answer}
use Rattle.bibtex_answers.proofs.names.answer_names_as_bibtex.Goals as goal

pub returns : goal.returns
returns c = c.answer_file.ensures (names_answer c.args.key.now c.args.template.now) (λ file given called. search rules)
