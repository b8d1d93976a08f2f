use Rattle.std.proofs.Common.{refl}
use Rattle.bib_spec.specs.Text.{is_space}
use Rattle.bib_places.proofs.plain.white.Goals as goal

pub returns : goal.returns
unfolding is_space
returns c = refl
