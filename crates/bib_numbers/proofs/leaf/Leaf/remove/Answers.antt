use Rattle.bib_numbers.proofs.Words.{◌∙◌, ℕ, List, remove, map, ap, plus}
use Rattle.bib_numbers.proofs.Moves.{map-remove}
use Rattle.bib_numbers.proofs.leaf.Leaf.remove.Goals as goal

pub returns : goal.returns
returns c = ap (map (plus c.self.inside.base)) c.remove.ensures.items ∙ map-remove (plus c.self.inside.base) c.self.inside.list.items c.args.k ∙ ap (λ (l : List ℕ). remove l c.args.k) c.self.view_is
