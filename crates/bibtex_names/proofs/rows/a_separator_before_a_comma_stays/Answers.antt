use Rattle.std.proofs.Common.{refl}
use Rattle.bib_spec.specs.Text.{is_space}
use Rattle.bibtex_names.proofs.rows.a_separator_before_a_comma_stays.Goals as goal

pub returns : goal.returns
unfolding is_space
returns c = refl
