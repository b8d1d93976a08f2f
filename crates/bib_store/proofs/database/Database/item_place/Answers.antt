use Rattle.bib_store.proofs.Words.{ℕ, ◌+◌, length, ap, arith, length-append, flat_map, kept_bytes, weight-take}
use Rattle.bib_store.proofs.KeptItems.{kept_as, start_kept}
use Rattle.bib_store.proofs.database.Database.item_place.Goals as goal

pub overflow_add-result : goal.overflow_add-result
overflow_add-result g c =
    let items = g.L.ItemList.items c.self.inside.items in
    omega (arith, c.self.invariant.0.is.opens.short, c.start.ensures, weight-take items c.args.n, length-append c.self.inside.front (flat_map kept_bytes items), ap (length {A = ℕ}) c.as_slice.ensures)

pub returns : goal.returns
returns g c = λ db r.
    let items = g.L.ItemList.items c.self.inside.items in
    let k = kept_as c.self.inside.front items c.self.inside.tables c.args.self.now c.self.invariant.0 c.self.view_is db r in
    start_kept db c.self.inside.front items c.self.inside.tables c.args.n (length c.as_slice.result.now + c.start.result) c.as_slice.result.now k c.as_slice.ensures
    (ap (λ (n : ℕ). length c.as_slice.result.now + n) c.start.ensures)
