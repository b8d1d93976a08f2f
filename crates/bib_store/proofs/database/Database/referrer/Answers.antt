use Rattle.bib_store.proofs.Words.{entries_of, keys_of}
use Rattle.bib_store.specs.Tables.{crossrefs_of}
use Rattle.bib_store.proofs.KeptItems.{kept_as}
use Rattle.bib_store.proofs.database.Database.referrer.Goals as goal

pub returns : goal.returns
returns g c = λ db r.
    let k = kept_as c.self.inside.front (g.L.ItemList.items c.self.inside.items) c.self.inside.tables c.args.self.now c.self.invariant.0 c.self.view_is db r in
    c.referrer.ensures (keys_of (entries_of db)) (crossrefs_of db) k.tables.named
