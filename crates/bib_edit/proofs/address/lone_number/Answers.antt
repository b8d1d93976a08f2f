use Rattle.bib_edit.proofs.Words.{sym, arith, none_holds, many_hold}
use Rattle.bib_edit.proofs.LoneNumbers.{lone-number, no-number}
use Rattle.bib_edit.proofs.address.lone_number.Goals as goal

pub returns-in-Some-2-clause-lone : goal.returns-in-Some-2-clause-lone
returns-in-Some-2-clause-lone g c db reads =
    let count = c.in-Some.ensures.count db reads in let few = c.if-held-gt1.false in
    lone-number c.args.key.now db c.in-Some.held.first (sym (c.in-Some.ensures.first db reads)) (omega (arith, count, few))

pub returns-in-Some-clause-refused : goal.returns-in-Some-clause-refused
returns-in-Some-clause-refused g c = many_hold (λ db reads. let count = c.in-Some.ensures.count db reads in let many = c.if-held-gt1.true in omega (arith, count, many))

pub returns-in-None-clause-refused : goal.returns-in-None-clause-refused
returns-in-None-clause-refused g c = none_holds (λ db reads. no-number c.args.key.now db (sym (c.in-None.ensures.first db reads)))
