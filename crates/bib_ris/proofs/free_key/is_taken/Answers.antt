use Rattle.bib_ris.proofs.LookedUp.{taken-held}
use Rattle.bib_ris.proofs.free_key.is_taken.Goals as goal

pub returns-in-Ok : goal.returns-in-Ok
returns-in-Ok g c db reads = taken-held c.args.key.now c.requires.filled db c.args.ids.now c.in-Ok.field-0 (c.in-Ok.ensures.found db reads)
