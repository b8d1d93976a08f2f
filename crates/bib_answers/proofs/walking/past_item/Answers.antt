use Rattle.bib_answers.proofs.Words.{◌-◌, ◌+◌, ◌++◌, length}
use Rattle.std.proofs.Common.{arith, length-append}
use Rattle.bib_answers.specs.Walking.{clip}
use Rattle.bib_answers.proofs.WalkSteps.{item_at, past_more, clip_short, longer}
use Rattle.bib_answers.proofs.walking.past_item.Goals as goal

pub overflow_add-behind : goal.overflow_add-behind
overflow_add-behind c =
    let it = item_at c.args.db.now c.args.spot c.item-item.result c.body-body.result.now c.trail-trail.result.now c.opens.ensures c.requires.number c.requires.spot c.item-item.ensures c.body-body.ensures c.trail-trail.ensures in
    let fits = it.fits in let short = it.short in omega (arith, fits, short)

pub past_chunk-at-requires-clause-short : goal.past_chunk-at-requires-clause-short
past_chunk-at-requires-clause-short c =
    let it = item_at c.args.db.now c.args.spot c.item-item.result c.body-body.result.now c.trail-trail.result.now c.opens.ensures c.requires.number c.requires.spot c.item-item.ensures c.body-body.ensures c.trail-trail.ensures in
    let fits = it.fits in let short = it.short in omega (arith, fits, short)

pub past_chunk-at-requires-2-clause-before : goal.past_chunk-at-requires-2-clause-before
past_chunk-at-requires-2-clause-before c =
    let it = item_at c.args.db.now c.args.spot c.item-item.result c.body-body.result.now c.trail-trail.result.now c.opens.ensures c.requires.number c.requires.spot c.item-item.ensures c.body-body.ensures c.trail-trail.ensures in
    let fits = it.fits in
    let short = it.short in
    let b = c.requires.before in
    let piece = clip (c.args.start - c.args.spot.place) (c.args.end - c.args.spot.place) c.body-body.result.now in
    let most = clip_short (c.args.start - c.args.spot.place) (c.args.end - c.args.spot.place) c.body-body.result.now in
    let both = length-append b.0 piece in
    let few = b.1 in
    (b.0 ++ piece, omega (arith, few, most, both, fits, short), longer c.args.at c.past_chunk-at.result b.0 piece b.2 c.past_chunk-at.ensures)

pub past_chunk-at-requires-2-clause-short : goal.past_chunk-at-requires-2-clause-short
past_chunk-at-requires-2-clause-short c =
    let it = item_at c.args.db.now c.args.spot c.item-item.result c.body-body.result.now c.trail-trail.result.now c.opens.ensures c.requires.number c.requires.spot c.item-item.ensures c.body-body.ensures c.trail-trail.ensures in
    let fits = it.fits in let short = it.short in omega (arith, fits, short)

pub overflow_add-next : goal.overflow_add-next
overflow_add-next c = let small = c.requires.small in omega (arith, small)

pub overflow_add-next-2 : goal.overflow_add-next-2
overflow_add-next-2 c =
    let it = item_at c.args.db.now c.args.spot c.item-item.result c.body-body.result.now c.trail-trail.result.now c.opens.ensures c.requires.number c.requires.spot c.item-item.ensures c.body-body.ensures c.trail-trail.ensures in
    let fits = it.fits in let short = it.short in omega (arith, fits, short)

pub returns-clause-at : goal.returns-clause-at
returns-clause-at c from is =
    let it = item_at c.args.db.now c.args.spot c.item-item.result c.body-body.result.now c.trail-trail.result.now c.opens.ensures c.requires.number c.requires.spot c.item-item.ensures c.body-body.ensures c.trail-trail.ensures in
    past_more from c.past_chunk-at.result c.past_chunk-at-2.result (c.args.spot.place + length c.body-body.result.now) c.args.start c.args.end c.trail-trail.result.now c.args.db.now it.trail_is
    (past_more from c.args.at c.past_chunk-at.result c.args.spot.place c.args.start c.args.end c.body-body.result.now c.args.db.now it.body_is is c.past_chunk-at.ensures)
    c.past_chunk-at-2.ensures

pub returns-clause-spot : goal.returns-clause-spot
returns-clause-spot c = (item_at c.args.db.now c.args.spot c.item-item.result c.body-body.result.now c.trail-trail.result.now c.opens.ensures c.requires.number c.requires.spot c.item-item.ensures c.body-body.ensures c.trail-trail.ensures).next
