use Rattle.bib_spec.proofs.PieceLemmas.{kept-between}
use Rattle.bib_spec.proofs.Chunks.{pieces-are-chunks}
use Rattle.bib_spec.proofs.replacing.bytes_outside_pieces_are_kept.Goals as goal

pub returns-clause-chunks : goal.returns-clause-chunks
returns-clause-chunks c = pieces-are-chunks

pub returns-clause-between : goal.returns-clause-between
returns-clause-between c = kept-between
