use Rattle.bib_store.proofs.Words.{List, sym, subst, HasItems, ArePut, change_put, joined}
use Rattle.bib_items.specs.declared.list.Item.{Item}
use Rattle.bib_store.proofs.Exchanges.{put_without, too_long_refused}
use Rattle.bib_store.proofs.exchanging.remake.Goals as goal

pub returns-in-Ok-clause-tables : goal.returns-in-Ok-clause-tables
returns-in-Ok-clause-tables g c = λ t text layout old put front db inner k reads has.
    let now = g.L.ItemList.items c.prepare.new.self in
    let put_now = subst (λ (l : List Item). ArePut (change_put c.args.put.now text layout) old l c.args.put.now.count) (sym c.prepare.ensures) put in
    let left = subst (λ (l : List Item). HasItems c.args.front_len l (joined c.args.put.now.window db inner)) (sym (put_without (change_put c.args.put.now text layout) old now c.args.put.now.count put_now inner reads)) has in
    (c.in-Ok.ensures.tables (joined c.args.put.now.window db inner) left, c.in-Ok.ensures.texts (joined c.args.put.now.window db inner) left)

pub returns-then-fault-eq8-clause-refused : goal.returns-then-fault-eq8-clause-refused
returns-then-fault-eq8-clause-refused g c = λ _ t text layout old put front db inner k reads has none.
    let now = g.L.ItemList.items c.prepare.new.self in
    let put_now = subst (λ (l : List Item). ArePut (change_put c.args.put.now text layout) old l c.args.put.now.count) (sym c.prepare.ensures) put in
    let left = subst (λ (l : List Item). HasItems c.args.front_len l (joined c.args.put.now.window db inner)) (sym (put_without (change_put c.args.put.now text layout) old now c.args.put.now.count put_now inner reads)) has in
    too_long_refused (joined c.args.put.now.window db inner) c.in-Err.fault.kind c.in-Err.fault.place _ c.if-fault-eq8.true c.in-Err.ensures.fault (λ long. long (joined c.args.put.now.window db inner) left) none
