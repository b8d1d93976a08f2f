use Rattle.std.proofs.Common.{refl}
use Rattle.bib_spec.specs.Text.{is_space}
use Rattle.bibtex_names.proofs.rows.bad_templates_are_refused.Goals as goal

pub returns : goal.returns
unfolding is_space
returns c = record { two = refl; twice = refl; letter = refl; byte = refl; brace = refl }
