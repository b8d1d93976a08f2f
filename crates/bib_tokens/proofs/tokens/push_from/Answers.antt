use Rattle.bib_tokens.proofs.Words.{◌+◌, false, length, refl, ◌∙◌, ap, arith, ℕ, View, start_of, tree_bytes, tokens_seen, test_of}
use Rattle.std.proofs.lemmas.List.{length-append}
use Rattle.bib_tokens.proofs.Elements.{slice_get-within, stands_alone, stands_on}
use Rattle.bib_tokens.proofs.PlacedItems.{item-ends, placed-fields, place-next, tokens-start, tokens-next, tokens-end}
use Rattle.bib_tokens.proofs.PassedItems.{tokens-pass, met-pass}
use Rattle.bib_tokens.proofs.MetParts.{met-item, met-items}
use Rattle.bib_tokens.proofs.tokens.push_from.Goals as goal

pub items-init : goal.items-init
items-init g c = (
  λ db reads.
      let first = c.next_with-k.ensures in (
        first.within db reads,
        tokens-pass (test_of c.args.sought) db c.args.n (tokens_seen c.args.tokens.now.items) c.args.n (start_of db c.args.n) (tokens_seen c.args.tokens.now.items) c.next_with-k.result c.item_place-at.result first.order (first.sought db reads) (c.item_place-at.ensures db reads)
            (tokens-start (test_of c.args.sought) db c.args.n (tokens_seen c.args.tokens.now.items) (start_of db c.args.n) refl),
        met-pass (test_of c.args.watched) db.items c.args.n c.args.n false c.next_with-k.result first.order (first.other db reads) refl,
      ),
  stands_alone c.args.tokens.now.items,
)

pub push_in_fields-requires : goal.push_in_fields-requires
push_in_fields-requires g c =
    placed-fields c.args.db.now c.items.k c.items.at c.item-view.result c.fields.result c.opens.ensures
    (λ db reads. let count = c.item_count-count.ensures db reads in omega (arith, count, c.items-test.true))
    (λ db reads. let place = (c.items.invariant.0 db reads).1.place in omega (arith, place))
    c.item-view.ensures c.fields.ensures.fields

pub overflow_add-end-in-items : goal.overflow_add-end-in-items
overflow_add-end-in-items g c =
    let db = c.opens.ensures.0 in
    let reads = c.opens.ensures.1.reads in
    let short = c.opens.ensures.1.short in
    let count = c.item_count-count.ensures db reads in
    let it = slice_get-within db.items c.items.k (omega (arith, count, c.items-test.true)) in
    let ends = item-ends c.args.db.now db c.items.k it.0 reads it.1 in
    let place = (c.items.invariant.0 db reads).1.place in
    let b = ap (length {A = ℕ}) (c.body.ensures ∙ ap (λ (v : View). v.body) (c.item-view.ensures db reads it.0 it.1)) in
    let t = ap (length {A = ℕ}) (c.trail.ensures ∙ ap (λ (v : View). v.trail) (c.item-view.ensures db reads it.0 it.1)) in
    omega (arith, short, ends, place, b, t, length-append (tree_bytes it.0.tree) it.0.trail)

pub place_of-at-requires-clause-near : goal.place_of-at-requires-clause-near
place_of-at-requires-clause-near g c db reads =
    let count = c.item_count-count.ensures db reads in
    place-next db c.items.k c.items.at c.item-view.result c.body.result.now c.trail.result.now (omega (arith, count, c.items-test.true)) (c.item-view.ensures db reads) c.body.ensures c.trail.ensures (c.items.invariant.0 db reads).1.place

pub items-preserved : goal.items-preserved
items-preserved g c = (
  λ db reads.
      let count = c.item_count-count.ensures db reads in
      let so_far = c.items.invariant.0 db reads in
      let next = c.next_from-next.ensures in (
        next.within db reads,
        tokens-pass (test_of c.args.sought) db c.args.n (tokens_seen c.args.tokens.now.items) (c.items.k + 1) _ (tokens_seen c.push_in_fields.new.tokens.items) c.next_from-next.result c.place_of-at.result next.order (next.sought db reads) (c.place_of-at.ensures db reads)
            (tokens-next (test_of c.args.sought) c.args.db.now db c.args.n (tokens_seen c.args.tokens.now.items) c.items.k c.items.at (tokens_seen c.items.tokens.items) (tokens_seen c.push_in_fields.new.tokens.items)
            c.item-view.result c.fields.result c.body.result.now c.trail.result.now reads (omega (arith, count, c.items-test.true)) (c.item-view.ensures db reads) c.fields.ensures.fields c.body.ensures c.trail.ensures
            c.in_ok-here.ensures.tokens so_far.1),
        met-pass (test_of c.args.watched) db.items c.args.n (c.items.k + 1) _ c.next_from-next.result next.order (next.watched db reads)
            (met-item (test_of c.args.watched) c.args.db.now db c.args.n c.items.k c.items.met c.in_ok-here.here c.item-view.result c.fields.result reads (omega (arith, count, c.items-test.true)) (c.item-view.ensures db reads)
            c.fields.ensures.fields c.in_ok-here.ensures.met so_far.2),
      ),
  stands_on c.args.tokens.now.items c.items.tokens.items c.push_in_fields.new.tokens.items c.items.invariant.1 c.in_ok-here.ensures.front,
)

pub returns-clause-tokens : goal.returns-clause-tokens
returns-clause-tokens g c db reads =
    let count = c.item_count-count.ensures db reads in
    tokens-end (test_of c.args.sought) db c.args.n (tokens_seen c.args.tokens.now.items) c.items.k c.items.at (tokens_seen c.items.tokens.items) (omega (arith, count, c.items-test.false)) (c.items.invariant.0 db reads).1

pub returns-clause-met : goal.returns-clause-met
returns-clause-met g c db reads =
    let count = c.item_count-count.ensures db reads in
    met-items (test_of c.args.watched) db.items c.args.n c.items.k c.items.met (omega (arith, count, c.items-test.false)) (c.items.invariant.0 db reads).2
