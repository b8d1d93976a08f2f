use Rattle.std.proofs.Common.{option_and_then, sym, ◌∙◌, ap}
use Rattle.bib_spec.specs.Records.{entries_of}
use Rattle.bib_spec.proofs.Parents.{named_within}
use Rattle.merge_spec.specs.Parents.{named_at}
use Rattle.bib_parents.proofs.losing.named_on.Goals as goal

pub named_at-requires : goal.named_at-requires
named_at-requires g c r reads = named_within (entries_of r) c.args.key.now c.in-Ok.m (c.in-Ok.ensures.found r reads)

pub returns-in-Ok : goal.returns-in-Ok
returns-in-Ok g c r reads = c.named_at.ensures r reads ∙ sym (ap (option_and_then (named_at (entries_of r) c.args.text.now)) (c.in-Ok.ensures.found r reads))

pub returns-in-Err : goal.returns-in-Err
returns-in-Err g c r reads = sym (ap (option_and_then (named_at (entries_of r) c.args.text.now)) (c.in-Err.ensures.none.1 r reads))
