use Rattle.bib_answers.proofs.Words.{◌∙◌, ◌+◌, ◌-◌, length, ap, position}
use Rattle.bib_answers.proofs.PositionSteps.{after_feed, after_none}
use Rattle.bib_answers.proofs.positions.moved.Goals as goal

pub returns-in-Some : goal.returns-in-Some
returns-in-Some c =
    ap (λ count. position (c.args.from.line + count) (length c.args.bytes.now - c.in-Some.last)) c.feed_count.ensures
    ∙ after_feed c.args.from c.args.bytes.now c.in-Some.last c.in-Some.ensures.0 c.in-Some.ensures.1

pub returns-in-None : goal.returns-in-None
returns-in-None c = after_none c.args.from c.args.bytes.now c.in-None.ensures
