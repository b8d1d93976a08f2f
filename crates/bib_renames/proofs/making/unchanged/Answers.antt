use Rattle.bib_renames.proofs.Renamings.{stays}
use Rattle.bib_renames.proofs.making.unchanged.Goals as goal

pub returns : goal.returns
returns c side base = stays side base c.args.file.now c.in_ok-copied.field-0 c.in_ok-copied.ensures
