use Rattle.std.proofs.Common.{refl}
use Rattle.bib_spec.specs.Text.{is_space}
use Rattle.bibtex_names.proofs.rows.ties_before_a_group_are_its_own.Goals as goal

pub returns : goal.returns
unfolding is_space
returns c = refl
