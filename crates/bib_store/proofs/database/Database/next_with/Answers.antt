use Rattle.bib_store.proofs.Words.{arith}
use Rattle.bib_store.proofs.KeptItems.{kept_as, kept_reading, count_kept}
use Rattle.bib_store.proofs.PassedItems.{lack-kept}
use Rattle.bib_store.proofs.database.Database.next_with.Goals as goal

pub next_with-requires : goal.next_with-requires
next_with-requires g c =
    let items = g.L.ItemList.items c.self.inside.items in
    let k = kept_reading c.self.inside.front items c.self.inside.tables c.args.self.now c.self.invariant.0 c.self.view_is in
    omega (arith, c.requires k.0 k.1, count_kept k.0 c.self.inside.front items c.self.inside.tables k.2)

pub returns-clause-within : goal.returns-clause-within
returns-clause-within g c = λ db r.
    let items = g.L.ItemList.items c.self.inside.items in
    let k = kept_as c.self.inside.front items c.self.inside.tables c.args.self.now c.self.invariant.0 c.self.view_is db r in
    omega (arith, c.next_with.ensures.within, count_kept db c.self.inside.front items c.self.inside.tables k)

pub returns-clause-sought : goal.returns-clause-sought
returns-clause-sought g c = λ db r.
    let items = g.L.ItemList.items c.self.inside.items in
    let k = kept_as c.self.inside.front items c.self.inside.tables c.args.self.now c.self.invariant.0 c.self.view_is db r in
    lack-kept c.args.sought db c.self.inside.front items c.self.inside.tables c.args.n c.next_with.result k c.next_with.ensures.sought

pub returns-clause-other : goal.returns-clause-other
returns-clause-other g c = λ db r.
    let items = g.L.ItemList.items c.self.inside.items in
    let k = kept_as c.self.inside.front items c.self.inside.tables c.args.self.now c.self.invariant.0 c.self.view_is db r in
    lack-kept c.args.other db c.self.inside.front items c.self.inside.tables c.args.n c.next_with.result k c.next_with.ensures.other
