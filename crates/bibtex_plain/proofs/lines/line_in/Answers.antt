use Rattle.std.proofs.Common.{arith}
use Rattle.bibtex_plain.proofs.ItemPlaces.{item_small}
use Rattle.bibtex_plain.proofs.WalkSteps.{no_line, a_line}
use Rattle.bibtex_plain.proofs.lines.line_in.Goals as goal

pub overflow_add-result : goal.overflow_add-result
overflow_add-result c =
    let small = item_small c.args.db.now c.args.n c.item_place.result c.item-item.result c.opens.ensures c.requires.number c.item-item.ensures c.item_place.ensures in
    let within = c.in-Some.ensures.within in
    omega (arith, small, within)

pub returns-in-Some : goal.returns-in-Some
returns-in-Some c r reads =
    a_line r c.args.n c.args.count c.item_place.result c.in-Some.k c.item-item.result (c.requires.number r reads) (c.requires.count r reads) (c.item_place.ensures r reads) (c.item-item.ensures r reads) c.in-Some.ensures.line

pub returns-in-None : goal.returns-in-None
returns-in-None c r reads =
    no_line r c.args.n c.args.count c.item-item.result (c.requires.number r reads) (c.requires.count r reads) (c.item-item.ensures r reads) c.in-None.ensures.line
