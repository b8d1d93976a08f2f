use Rattle.std.proofs.Common.{refl}
use Rattle.bib_spec.specs.Text.{is_space}
use Rattle.bibtex_names.proofs.rows.a_name_begins_with_a_word.Goals as goal

pub returns : goal.returns
unfolding is_space
returns c = refl
