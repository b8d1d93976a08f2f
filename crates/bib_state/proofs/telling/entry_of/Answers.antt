use Rattle.bib_spec.specs.Records.{entries_of}
use Rattle.bib_spec.proofs.Parents.{named_within}
use Rattle.bib_state.proofs.telling.entry_of.Goals as goal

pub line_of-requires-clause-number : goal.line_of-requires-clause-number
line_of-requires-clause-number c r reads = named_within (entries_of r) _ _ (c.in-Ok.ensures.found r reads)

pub returns-in-Ok-line_of-clause-given : goal.returns-in-Ok-line_of-clause-given
returns-in-Ok-line_of-clause-given c = record {
  n = c.in-Ok.n;
  line = c.in-Ok-line_of.line;
  found = c.in-Ok.ensures.found;
  told = c.in-Ok-line_of.ensures.line;
  given = c.done.ensures;
}
