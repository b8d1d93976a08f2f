use Rattle.std.proofs.Common.{rules}
use Rattle.bibtex_ris.specs.Ris.{ris_answer}
use Rattle.bibtex_ris.proofs.answering.answer_ris_as_bibtex.Goals as goal

pub returns : goal.returns
returns c = c.answer_file.ensures (ris_answer c.args.dropped c.args.plain c.args.keys.now) (λ file given called. search rules)
