use Rattle.bib_store.proofs.Words.{err_from_is_err_and}
use Rattle.bib_store.proofs.database.Database.open_file.Goals as goal

pub returns-in_err-front-clause-fault : goal.returns-in_err-front-clause-fault
returns-in_err-front-clause-fault g c =
    let p = err_from_is_err_and c.from_residual-in_err-front.result c.from_residual-in_err-front.ensures.1 in
    rw (p.1, p.2) c.in_err-front.ensures.fault
