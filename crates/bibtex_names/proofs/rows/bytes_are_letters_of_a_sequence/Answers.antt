use Rattle.std.proofs.Common.{refl}
use Rattle.bib_spec.specs.Text.{is_space}
use Rattle.bibtex_names.proofs.rows.bytes_are_letters_of_a_sequence.Goals as goal

pub returns : goal.returns
unfolding is_space
returns c = refl
