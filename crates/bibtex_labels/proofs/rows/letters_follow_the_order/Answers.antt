use Rattle.std.proofs.Common.{refl}
use Rattle.bibtex_labels.proofs.rows.letters_follow_the_order.Goals as goal

pub returns : goal.returns
returns c = record { keys = refl; labels = refl }
