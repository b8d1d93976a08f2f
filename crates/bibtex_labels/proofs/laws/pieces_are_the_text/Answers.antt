use Rattle.bibtex_labels.proofs.PieceLemmas.{pieces_join}
use Rattle.bibtex_labels.proofs.laws.pieces_are_the_text.Goals as goal

pub returns : goal.returns
returns c = pieces_join
