use Rattle.bib_store.proofs.Words.{ap, with_bounds}
use Rattle.bib_store.proofs.in_place.put_in_place.Goals as goal

pub returns-then-put_each-clause-back : goal.returns-then-put_each-clause-back
returns-then-put_each-clause-back g c = ap (with_bounds c.args.tables.now.bounds) c.put_each.ensures.rest

pub returns-clause-none : goal.returns-clause-none
returns-clause-none g c = λ _. ap (with_bounds c.args.tables.now.bounds) c.put_each.ensures.rest
