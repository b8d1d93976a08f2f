use Rattle.bib_store.proofs.Words.{arith, length-append, flat_map, kept_bytes, weight-take}
use Rattle.bib_store.proofs.touching.touched.Goals as goal

pub overflow_add-start : goal.overflow_add-start
overflow_add-start g c =
    let items = g.L.ItemList.items c.args.items.now in
    omega (arith, c.requires.len, c.requires.short, c.start.ensures, weight-take items c.holder-from.result, length-append c.args.front.now (flat_map kept_bytes items))
