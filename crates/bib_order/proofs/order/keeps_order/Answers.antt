use Rattle.bib_order.proofs.KeptOrder.{kept_order}
use Rattle.bib_order.proofs.order.keeps_order.Goals as goal

pub returns : goal.returns
returns c = kept_order
