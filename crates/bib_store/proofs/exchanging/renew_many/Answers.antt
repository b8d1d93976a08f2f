use Rattle.bib_store.proofs.Words.{List, err_always, refl, sym, subst, err_from_is_err_and, ArePut, SayTheSameBefore, change_put}
use Rattle.bib_items.specs.declared.list.Item.{Item}
use Rattle.bib_store.proofs.exchanging.renew_many.Goals as goal

pub returns-then-put_behind_first-clause-tables : goal.returns-then-put_behind_first-clause-tables
returns-then-put_behind_first-clause-tables g c = λ text layout old put.
    c.if-put_behind_first.ensures.tables refl c.args.front_len text layout old (subst (λ (l : List Item). ArePut (change_put c.args.put.now text layout) old l c.args.put.now.count) (sym c.prepare.ensures) put)

pub returns-in_err-tables-clause-refused : goal.returns-in_err-tables-clause-refused
returns-in_err-tables-clause-refused g c =
    let p = err_from_is_err_and c.from_residual.result c.from_residual.ensures.1 in
    rw (p.1, p.2) (λ bad text layout old put. c.in_err-tables.ensures.refused bad c.args.tables.now text layout old (subst (λ (l : List Item). ArePut (change_put c.args.put.now text layout) old l c.args.put.now.count) (sym c.prepare.ensures) put))

pub returns-in_err-tables-clause-err : goal.returns-in_err-tables-clause-err
returns-in_err-tables-clause-err g c =
    err_always c.from_residual.result (subst (λ (l : List Item). SayTheSameBefore c.args.put.now l c.args.tables.now c.put_behind_first.new.tables) c.prepare.ensures (c.if-put_behind_first.ensures.same refl))

pub returns-clause-tables : goal.returns-clause-tables
returns-clause-tables g c = λ text layout old put. c.in_ok-tables.ensures.tables c.args.tables.now text layout old (subst (λ (l : List Item). ArePut (change_put c.args.put.now text layout) old l c.args.put.now.count) (sym c.prepare.ensures) put)
