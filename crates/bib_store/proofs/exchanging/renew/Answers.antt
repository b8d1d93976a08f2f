use Rattle.bib_store.proofs.Words.{err_from_is_err_and}
use Rattle.bib_store.proofs.exchanging.renew.Goals as goal

pub returns-in-Ok-clause-tables : goal.returns-in-Ok-clause-tables
returns-in-Ok-clause-tables g c = c.in-Ok.ensures.tables c.args.front_len

pub returns-then-not-is_firm-clause-refused : goal.returns-then-not-is_firm-clause-refused
returns-then-not-is_firm-clause-refused g c = λ bad. c.in-Err.ensures.refused bad (c.is_firm.ensures.loose c.if-not-is_firm.true) c.args.front_len

pub returns-in_err-tables-clause-refused : goal.returns-in_err-tables-clause-refused
returns-in_err-tables-clause-refused g c =
    let p = err_from_is_err_and c.from_residual.result c.from_residual.ensures.1 in
    rw (p.1, p.2) (λ bad. c.in_err-tables.ensures.refused bad c.args.tables.now)

pub returns-clause-tables : goal.returns-clause-tables
returns-clause-tables g c = c.in_ok-tables.ensures.tables c.args.tables.now
