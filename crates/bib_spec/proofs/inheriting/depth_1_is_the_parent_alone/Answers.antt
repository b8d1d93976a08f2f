use Rattle.bib_spec.proofs.Lineages.{parent-alone-at-depth-1}
use Rattle.bib_spec.proofs.inheriting.depth_1_is_the_parent_alone.Goals as goal

pub returns : goal.returns
returns c = parent-alone-at-depth-1
