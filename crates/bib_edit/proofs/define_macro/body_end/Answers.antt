use Rattle.bib_edit.proofs.Words.{◌≡◌, ◌+◌, [], Item, length, length-append, ◌∙◌, ap, ap₂, arith, slice_get-within, item-ends, option_map_or, tree_bytes}
use Rattle.bib_edit.proofs.define_macro.body_end.Goals as goal

pub overflow_add-result : goal.overflow_add-result
overflow_add-result g c =
    let db = c.opens.ensures.0 in
    let reads = c.opens.ensures.1.reads in
    let short = c.opens.ensures.1.short in
    let it = slice_get-within db.items c.args.n (c.requires db reads) in
    let ends = item-ends c.args.db.now db c.args.n it.0 reads it.1 in
    let place = c.item_place.ensures db reads in
    let body : length c.body_of.result.now ≡ length (tree_bytes it.0.tree) = ap length (c.body_of.ensures db reads ∙ ap (λ o. option_map_or (λ (i : Item). tree_bytes i.tree) o []) it.1) in
    omega (arith, short, ends, place, body, length-append (tree_bytes it.0.tree) it.0.trail)

pub returns : goal.returns
returns g c db reads = ap₂ (λ a b. a + b) (c.item_place.ensures db reads) (ap length (c.body_of.ensures db reads))
