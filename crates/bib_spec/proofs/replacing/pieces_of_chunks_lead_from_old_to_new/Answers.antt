use Rattle.bib_spec.proofs.Chunks.{chunks-fit, chunks-lead}
use Rattle.bib_spec.proofs.replacing.pieces_of_chunks_lead_from_old_to_new.Goals as goal

pub returns-clause-fit : goal.returns-clause-fit
returns-clause-fit c = chunks-fit

pub returns-clause-new : goal.returns-clause-new
returns-clause-new c = chunks-lead
