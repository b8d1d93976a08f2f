use Rattle.std.proofs.Common.{rules}
use Rattle.bibtex_answers.specs.Records.{json_answer}
use Rattle.bibtex_answers.proofs.json.answer_json_as_bibtex.Goals as goal

pub returns : goal.returns
returns c = c.answer_file.ensures (json_answer c.args.keys.now) (λ file given called. search rules)
