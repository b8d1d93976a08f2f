use Rattle.bib_numbers.proofs.Words.{◌∙◌, ap, map, plus}
use Rattle.bib_numbers.proofs.Moves.{map-plus}
use Rattle.bib_numbers.proofs.leaf.Leaf.shift.Goals as goal

pub returns : goal.returns
returns c = map-plus c.self.inside.base c.args.step c.self.inside.list.items ∙ ap (map (plus c.args.step)) c.self.view_is
