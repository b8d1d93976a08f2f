use Rattle.bib_edit.proofs.Words.{◌≡◌, ℕ, length, ◌∙◌, ap, arith, length-append, tree_bytes, View, start_of, slice_get-within, item-ends, place-next}
use Rattle.bib_edit.proofs.rekeying.place_from.Goals as goal

pub item-view-requires : goal.item-view-requires
item-view-requires g c db reads = let to = c.requires.to db reads in omega (arith, to, c.items-test.true)

pub overflow_add-place-in-items : goal.overflow_add-place-in-items
overflow_add-place-in-items g c =
    let db = c.opens.ensures.0 in
    let reads = c.opens.ensures.1.reads in
    let short = c.opens.ensures.1.short in
    let to = c.requires.to db reads in
    let it = slice_get-within db.items c.items.k (omega (arith, to, c.items-test.true)) in
    let ends = item-ends c.args.db.now db c.items.k it.0 reads it.1 in
    let place = c.items.invariant db reads in
    let b = ap (length {A = ℕ}) (c.body.ensures ∙ ap (λ (v : View). v.body) (c.item-view.ensures db reads it.0 it.1)) in
    let t = ap (length {A = ℕ}) (c.trail.ensures ∙ ap (λ (v : View). v.trail) (c.item-view.ensures db reads it.0 it.1)) in
    omega (arith, short, ends, place, b, t, length-append (tree_bytes it.0.tree) it.0.trail)

pub items-preserved : goal.items-preserved
items-preserved g c db reads =
    let to = c.requires.to db reads in
    place-next db c.items.k c.items.place c.item-view.result c.body.result.now c.trail.result.now (omega (arith, to, c.items-test.true)) (c.item-view.ensures db reads) c.body.ensures c.trail.ensures (c.items.invariant db reads)

pub returns : goal.returns
returns g c db reads =
    let end : c.items.k ≡ c.args.to = omega (arith, c.items-test.false, c.items.auto.k-end, c.if-to-from.false) in
    c.items.invariant db reads ∙ ap (start_of db) end
