use Rattle.bib_answers.proofs.Words.{entries_of, named_within}
use Rattle.bib_answers.proofs.show.show_in.Goals as goal

pub entry_text-requires-clause-number : goal.entry_text-requires-clause-number
entry_text-requires-clause-number c r reads = named_within (entries_of r) _ _ (c.in-Ok.ensures.found r reads)
