use Rattle.bib_numbers.proofs.Words.{◌∙◌, map, ap, plus, moved_from}
use Rattle.bib_numbers.proofs.Moves.{map-moved, written_moved}
use Rattle.bib_numbers.proofs.leaf.Leaf.shift_from.Goals as goal

pub returns : goal.returns
returns c =
    let list = c.self.inside.list in
    let move = plus c.args.step in
    ap (map (plus c.self.inside.base)) (written_moved move list.len c.args.k list.items c.as_mut_slice.result.now c.move_from.new.numbers list.ok.0 c.as_mut_slice.ensures.value c.move_from.ensures)
    ∙ map-moved c.self.inside.base c.args.step c.args.k list.items
    ∙ ap (moved_from move c.args.k) c.self.view_is
