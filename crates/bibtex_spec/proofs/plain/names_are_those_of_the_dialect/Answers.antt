use Rattle.std.proofs.Common.{refl}
use Rattle.bib_spec.specs.Text.{is_space, is_name_byte}
use Rattle.bibtex_spec.proofs.plain.names_are_those_of_the_dialect.Goals as goal

pub returns : goal.returns
unfolding is_space is_name_byte
returns c = record { at_sign = record { bytes = refl; place = refl }; comment = record { bytes = refl; place = refl }; braced = record { bytes = refl; place = refl }; del = record { bytes = refl; place = refl }; longest = record { bytes = refl; place = refl }; too_long = record { bytes = refl; place = refl } }
