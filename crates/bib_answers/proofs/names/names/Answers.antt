use Rattle.bib_answers.proofs.Words.{entries_of, named_within}
use Rattle.bib_answers.proofs.names.names.Goals as goal

pub entry_answer-requires-clause-number : goal.entry_answer-requires-clause-number
entry_answer-requires-clause-number c r reads = named_within (entries_of r) _ _ (c.in-Ok.ensures.found r reads)
