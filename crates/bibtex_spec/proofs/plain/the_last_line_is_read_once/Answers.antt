use Rattle.std.proofs.Common.{refl}
use Rattle.bib_spec.specs.Text.{is_space, is_name_byte}
use Rattle.bibtex_spec.proofs.plain.the_last_line_is_read_once.Goals as goal

pub returns : goal.returns
unfolding is_space is_name_byte
returns c = record { begun_before = record { bytes = refl; place = refl }; empty_last = record { bytes = refl; place = refl }; unended = record { bytes = refl; place = refl }; one_in_last = record { bytes = refl; place = refl }; alone = record { bytes = refl; place = refl } }
