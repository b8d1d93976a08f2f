use Rattle.std.proofs.Common.{refl}
use Rattle.bib_spec.specs.Text.{is_space, is_name_byte}
use Rattle.bibtex_spec.proofs.plain.a_return_ends_a_line.Goals as goal

pub returns : goal.returns
unfolding is_space is_name_byte
returns c = record { both = record { bytes = refl; place = refl }; alone = record { bytes = refl; place = refl } }
