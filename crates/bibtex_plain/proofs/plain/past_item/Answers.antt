use Rattle.std.proofs.Common.{ℕ, ◌∙◌, ◌+◌, length, take, drop, refl, sym, ap, arith}
use Rattle.std.specs.List.{flat_map}
use Rattle.bib_spec.specs.Reading.{item_bytes}
use Rattle.bib_scan.specs.View.{View}
use Rattle.bibtex_plain.specs.Walking.{keys_in}
use Rattle.bibtex_plain.specs.Walks.{signs_from}
use Rattle.bibtex_plain.proofs.EarlierKeys.{repeats_entry}
use Rattle.bibtex_plain.proofs.ItemPlaces.{item_within, item_small, item_is, follows_items}
use Rattle.bibtex_plain.proofs.WalkSteps.{walk_here, walk_next, last_of_item}
use Rattle.bibtex_plain.proofs.plain.past_item.Goals as goal

pub item_breach-requires-clause-item : goal.item_breach-requires-clause-item
item_breach-requires-clause-item c =
    let r = c.opens.ensures.0 in
    let reads = c.opens.ensures.1.reads in
    let one = item_within r.items c.args.n (c.requires.number r reads) in
    (one.0, c.item-item.ensures r reads one.0 one.1, λ repeated. repeats_entry (one.0).tree (keys_in (take c.args.n r.items)) (sym (c.is_repeated-repeated.ensures r reads one.0 one.1) ∙ repeated))

pub item_breach-requires-clause-small : goal.item_breach-requires-clause-small
item_breach-requires-clause-small c =
    let small = item_small c.args.db.now c.args.n c.args.walk.place c.item-item.result c.opens.ensures c.requires.number c.item-item.ensures (λ r reads. (c.requires.walk r reads).place) in
    omega (arith, small)

pub overflow_add-result : goal.overflow_add-result
overflow_add-result c =
    let small = item_small c.args.db.now c.args.n c.args.walk.place c.item-item.result c.opens.ensures c.requires.number c.item-item.ensures (λ r reads. (c.requires.walk r reads).place) in
    let body = ap (length {A = ℕ}) c.body.ensures in
    omega (arith, small, body)

pub overflow_add-result-in-Ok : goal.overflow_add-result-in-Ok
overflow_add-result-in-Ok c =
    let small = item_small c.args.db.now c.args.n c.args.walk.place c.item-item.result c.opens.ensures c.requires.number c.item-item.ensures (λ r reads. (c.requires.walk r reads).place) in
    let body = ap (length {A = ℕ}) c.body.ensures in
    let trail = ap (length {A = ℕ}) c.trail.ensures in
    omega (arith, small, body, trail)

pub returns-in-Ok-clause-next : goal.returns-in-Ok-clause-next
returns-in-Ok-clause-next c r reads =
    let number = c.requires.number r reads in
    let one = item_within r.items c.args.n number in
    let i = one.0 in
    let seen = c.item-item.ensures r reads i one.1 in
    let walk = c.requires.walk r reads in
    let keys = keys_in (take c.args.n r.items) in
    walk_next r c.args.n i c.args.walk _ c.body.result.now c.trail.result.now one.1 walk
    (c.body.ensures ∙ ap (λ (v : View). v.body) seen) (c.trail.ensures ∙ ap (λ (v : View). v.trail) seen) refl
    (c.counted.ensures.counted i keys seen walk.count)
    (c.in-Ok.ensures i keys (flat_map item_bytes (drop (c.args.n + 1) r.items)) seen (item_is c.args.db.now r c.args.n i reads one.1)
    (follows_items r.items (c.args.n + 1) c.args.items (c.requires.items r reads))
    (last_of_item r c.args.n c.args.last c.args.walk.place i one.1 walk.place (c.requires.last r reads))
    (c.is_repeated-repeated.ensures r reads i one.1))

pub returns-in-Err-clause-breach : goal.returns-in-Err-clause-breach
returns-in-Err-clause-breach c r reads =
    let number = c.requires.number r reads in
    let one = item_within r.items c.args.n number in
    let i = one.0 in
    let seen = c.item-item.ensures r reads i one.1 in
    let walk = c.requires.walk r reads in
    let keys = keys_in (take c.args.n r.items) in
    walk_here r c.args.n i c.args.walk one.1 walk
    ∙ c.in-Err.ensures i keys (flat_map item_bytes (drop (c.args.n + 1) r.items)) seen (item_is c.args.db.now r c.args.n i reads one.1)
    (follows_items r.items (c.args.n + 1) c.args.items (c.requires.items r reads))
    (last_of_item r c.args.n c.args.last c.args.walk.place i one.1 walk.place (c.requires.last r reads))
    (c.is_repeated-repeated.ensures r reads i one.1) (signs_from r (c.args.n + 1))
