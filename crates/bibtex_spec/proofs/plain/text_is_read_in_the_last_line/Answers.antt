use Rattle.std.proofs.Common.{refl}
use Rattle.bib_spec.specs.Text.{is_space, is_name_byte}
use Rattle.bibtex_spec.proofs.plain.text_is_read_in_the_last_line.Goals as goal

pub returns : goal.returns
unfolding is_space is_name_byte
returns c = record { front = record { bytes = refl; place = refl }; trail = record { bytes = refl; place = refl }; empty_last = record { bytes = refl; place = refl } }
