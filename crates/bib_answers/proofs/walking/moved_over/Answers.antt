use Rattle.bib_answers.proofs.Words.{◌++◌, min}
use Rattle.std.proofs.Common.{arith, length-append}
use Rattle.bib_answers.specs.Walking.{stretch}
use Rattle.bib_answers.proofs.WalkSteps.{begun, longer, stretch_short}
use Rattle.bib_answers.proofs.walking.moved_over.Goals as goal

pub items-init : goal.items-init
items-init c = (
  c.spot_before-spot.ensures.spot,
  begun c.args.db.now c.args.from c.past_chunk-at.result c.args.start c.args.end c.front.result.now c.spot_before-spot.result c.opens.ensures c.front.ensures c.spot_before-spot.ensures.first c.past_chunk-at.ensures,
)

pub past_item-requires-clause-before : goal.past_item-requires-clause-before
past_item-requires-clause-before c =
    let b = c.requires.before in
    let piece = stretch c.args.start (min c.items.spot.place c.args.end) c.args.db.now in
    let most = stretch_short c.args.start (min c.items.spot.place c.args.end) c.args.db.now in
    let both = length-append b.0 piece in
    let few = b.1 in
    let short = (c.opens.ensures.1).short in
    (b.0 ++ piece, omega (arith, few, most, both, short), longer c.args.from c.items.at b.0 piece b.2 c.items.invariant.1)
