use Rattle.std.proofs.Common.{refl}
use Rattle.bib_spec.specs.Text.{is_space}
use Rattle.bibtex_labels.specs.Purified.{foreign_letters}
use Rattle.bibtex_labels.proofs.rows.signs_are_taken_away.Goals as goal

pub returns : goal.returns
unfolding foreign_letters is_space
returns c = record { accent = refl; foreign = refl; command = refl; separators = refl; nested = refl; sorted = refl }
