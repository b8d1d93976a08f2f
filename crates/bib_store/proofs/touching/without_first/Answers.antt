use Rattle.bib_store.proofs.Words.{arith, length-append, flat_map, kept_bytes, weight-take}
use Rattle.bib_store.proofs.touching.without_first.Goals as goal

pub overflow_add-result : goal.overflow_add-result
overflow_add-result g c =
    let items = g.L.ItemList.items c.args.items.now in
    omega (arith, c.requires.len, c.requires.short, c.start.ensures, weight-take items c.if-window.from, length-append c.args.front.now (flat_map kept_bytes items))
