use Rattle.std.proofs.Common.{refl}
use Rattle.bib_spec.specs.Text.{is_space, is_name_byte}
use Rattle.bibtex_spec.proofs.plain.a_repeated_entry_is_left_at_its_key.Goals as goal

pub returns : goal.returns
unfolding is_space is_name_byte
returns c = record { inside = record { bytes = refl; place = refl }; folded = record { bytes = refl; place = refl }; empty = record { bytes = refl; place = refl }; key = record { bytes = refl; place = refl }; first = record { bytes = refl; place = refl } }
