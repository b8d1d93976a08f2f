use Rattle.bib_order.proofs.Words.{subst, AreKept}
use Rattle.bib_order.proofs.Ordering.{put_or_same}
use Rattle.bib_order.proofs.order.Order.insert.Goals as goal

pub invariant_of-self-in-Paged : goal.invariant_of-self-in-Paged
invariant_of-self-in-Paged c =
    put_or_same c.insert-in-Paged.result c.in-Paged.paged c.insert-in-Paged.new.self c.args.n (subst AreKept c.in-Paged.is c.self.invariant) c.insert-in-Paged.ensures.ok c.insert-in-Paged.ensures.err
