use Rattle.bib_edit.proofs.Words.{ℕ, false, ◌∙◌, ap, arith, length, length-append, subst, sym, List, Text, View, tree_bytes, tokens_seen, slice_get-within, item-ends}
use Rattle.bib_edit.proofs.NamedFields.{AreFoundTo, found-start, found-next, found-names, found-clashes, names-placed}
use Rattle.bib_edit.proofs.rename_field.found_in_all.Goals as goal

pub items-init : goal.items-init
items-init g c db reads =
    subst (λ (l : List (ℕ × Text)). AreFoundTo c.args.from.now c.args.to.now db 0 c.item_place-at.result l false) (sym (ap tokens_seen c.new-names.ensures.items))
    (found-start c.args.from.now c.args.to.now db c.item_place-at.result (c.item_place-at.ensures db reads))

pub item-view-requires : goal.item-view-requires
item-view-requires g c db reads = let count = c.item_count-n-end.ensures db reads in let test = c.items-test.true in omega (arith, count, test)

pub push_in_item-requires : goal.push_in_item-requires
push_in_item-requires g c =
    names-placed c.args.db.now c.items.n c.items.at c.item-view.result c.opens.ensures
    (λ db reads. let count = c.item_count-n-end.ensures db reads in let test = c.items-test.true in omega (arith, count, test))
    (λ db reads. (c.items.invariant db reads).place) c.item-view.ensures

pub overflow_add-at-in-items : goal.overflow_add-at-in-items
overflow_add-at-in-items g c =
    let db = c.opens.ensures.0 in
    let reads = c.opens.ensures.1.reads in
    let short = c.opens.ensures.1.short in
    let count = c.item_count-n-end.ensures db reads in
    let test = c.items-test.true in
    let it = slice_get-within db.items c.items.n (omega (arith, count, test)) in
    let ends = item-ends c.args.db.now db c.items.n it.0 reads it.1 in
    let place = (c.items.invariant db reads).place in
    let b = ap (length {A = ℕ}) (c.body.ensures ∙ ap (λ (v : View). v.body) (c.item-view.ensures db reads it.0 it.1)) in
    let t = ap (length {A = ℕ}) (c.trail.ensures ∙ ap (λ (v : View). v.trail) (c.item-view.ensures db reads it.0 it.1)) in
    omega (arith, short, ends, place, b, t, length-append (tree_bytes it.0.tree) it.0.trail)

pub items-preserved : goal.items-preserved
items-preserved g c db reads =
    let count = c.item_count-n-end.ensures db reads in
    let test = c.items-test.true in
    found-next c.args.from.now c.args.to.now db c.items.n c.items.at (tokens_seen c.items.names.items) (tokens_seen c.push_in_item.new.names.items) c.items.clashes c.in_ok-here.here
    c.item-view.result c.body.result.now c.trail.result.now (omega (arith, count, test)) (c.item-view.ensures db reads) c.body.ensures c.trail.ensures
    c.in_ok-here.ensures.names c.in_ok-here.ensures.clashes (c.items.invariant db reads)

pub returns-clause-names : goal.returns-clause-names
returns-clause-names g c db reads =
    let count = c.item_count-n-end.ensures db reads in
    let test = c.items-test.false in
    found-names c.args.from.now c.args.to.now db c.items.n c.items.at (tokens_seen c.items.names.items) c.items.clashes (omega (arith, count, test)) (c.items.invariant db reads)

pub returns-clause-clashes : goal.returns-clause-clashes
returns-clause-clashes g c db reads =
    let count = c.item_count-n-end.ensures db reads in
    let test = c.items-test.false in
    found-clashes c.args.from.now c.args.to.now db c.items.n c.items.at (tokens_seen c.items.names.items) c.items.clashes (omega (arith, count, test)) (c.items.invariant db reads)
