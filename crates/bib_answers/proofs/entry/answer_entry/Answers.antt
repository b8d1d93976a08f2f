use Rattle.bib_answers.proofs.Words.{rules}
use Rattle.bib_answers.specs.Entry.{entry_answer}
use Rattle.bib_answers.proofs.entry.answer_entry.Goals as goal

pub returns : goal.returns
returns c = c.answer_file.ensures (entry_answer c.args.at c.args.keys.now) (λ file given called. search rules)
