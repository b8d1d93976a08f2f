use Rattle.bib_answers.proofs.Words.{rules}
use Rattle.bib_answers.specs.Raw.{json_answer}
use Rattle.bib_answers.proofs.json.answer_json.Goals as goal

pub returns : goal.returns
returns c = c.answer_file.ensures (json_answer c.args.raw c.args.depth c.args.keys.now) (λ file given called. search rules)
