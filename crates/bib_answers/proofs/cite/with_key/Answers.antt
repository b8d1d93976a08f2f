use Rattle.bib_answers.proofs.Words.{◌∙◌}
use Rattle.bib_answers.proofs.EntryNumbers.{entry_key}
use Rattle.bib_answers.proofs.cite.with_key.Goals as goal

pub returns-in_default-clause-key : goal.returns-in_default-clause-key
returns-in_default-clause-key c r reads = c.key.ensures ∙ entry_key r c.args.n c.entry.result (c.requires.number r reads) (c.entry.ensures r reads)
