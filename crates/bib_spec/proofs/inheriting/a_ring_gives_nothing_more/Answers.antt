use Rattle.bib_spec.proofs.Lineages.{rings-give-nothing-more}
use Rattle.bib_spec.proofs.inheriting.a_ring_gives_nothing_more.Goals as goal

pub returns : goal.returns
returns c = rings-give-nothing-more
