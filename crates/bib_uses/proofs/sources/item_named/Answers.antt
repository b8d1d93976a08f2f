use Rattle.bib_spec.specs.Records.{entries_of}
use Rattle.bib_spec.proofs.Parents.{named_within}
use Rattle.bib_uses.proofs.sources.item_named.Goals as goal

pub entry_item-requires : goal.entry_item-requires
entry_item-requires g c r reads = named_within (entries_of r) c.args.key.now c.in-Ok.n (c.in-Ok.ensures.found r reads)
