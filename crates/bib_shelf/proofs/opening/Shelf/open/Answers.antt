use Rattle.std.proofs.lemmas.Result.{err_from_is_err_and}
use Rattle.bib_shelf.specs.Faults.{no_memory}
use Rattle.bib_shelf.proofs.opening.Shelf.open.Goals as goal

pub returns-in_err-joined-clause-fault : goal.returns-in_err-joined-clause-fault
returns-in_err-joined-clause-fault g c =
    let p = err_from_is_err_and c.from_residual.result c.from_residual.ensures.1 in
    rw (p.1, p.2) no_memory
