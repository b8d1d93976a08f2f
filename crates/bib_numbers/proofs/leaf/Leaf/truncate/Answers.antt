use Rattle.bib_numbers.proofs.Words.{◌∙◌, take, map, ap, sym, take-map, plus}
use Rattle.bib_numbers.proofs.leaf.Leaf.truncate.Goals as goal

pub returns : goal.returns
returns c = ap (map (plus c.self.inside.base)) c.truncate.ensures.items ∙ sym (take-map (plus c.self.inside.base) c.args.k c.self.inside.list.items) ∙ ap (take c.args.k) c.self.view_is
