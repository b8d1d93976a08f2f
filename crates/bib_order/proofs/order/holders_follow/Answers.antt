use Rattle.bib_order.proofs.Following.{follow_order}
use Rattle.bib_order.proofs.order.holders_follow.Goals as goal

pub returns : goal.returns
returns c = follow_order
