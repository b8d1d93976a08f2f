use Rattle.bib_order.proofs.Words.{subst, IsDistinct}
use Rattle.bib_order.proofs.Keeping.{kept_distinct}
use Rattle.bib_order.proofs.order.Order.count.Goals as goal

pub returns-in-Listed-clause-distinct : goal.returns-in-Listed-clause-distinct
returns-in-Listed-clause-distinct c = subst IsDistinct c.self.view_is (kept_distinct c.self.inside.ids c.self.invariant)
