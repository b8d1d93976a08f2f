use Rattle.std.proofs.Common.{rules}
use Rattle.bibtex_answers.specs.Show.{show_answer}
use Rattle.bibtex_answers.proofs.show.answer_show_as_bibtex.Goals as goal

pub returns : goal.returns
returns c = c.answer_file.ensures (show_answer c.args.key.now) (λ file given called. search rules)
