use Rattle.std.proofs.Common.{refl}
use Rattle.bibtex_labels.proofs.rows.prefixes_keep_braces.Goals as goal

pub returns : goal.returns
returns c = record { braced = refl; special = refl; below = refl; short = refl }
