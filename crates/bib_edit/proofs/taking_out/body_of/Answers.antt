use Rattle.bib_edit.proofs.Words.{◌∙◌}
use Rattle.bib_edit.proofs.SeenItems.{body-seen}
use Rattle.bib_edit.proofs.taking_out.body_of.Goals as goal

pub returns : goal.returns
returns g c db reads = c.body.ensures ∙ body-seen db.items c.args.n _ (c.requires db reads) (c.item.ensures db reads)
