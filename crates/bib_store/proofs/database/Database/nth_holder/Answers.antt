use Rattle.bib_store.proofs.Words.{map, entries_of, keys_of, crossref_text}
use Rattle.bib_store.proofs.KeptItems.{kept_as}
use Rattle.bib_store.proofs.database.Database.nth_holder.Goals as goal

pub returns : goal.returns
returns g c = λ db r.
    let k = kept_as c.self.inside.front (g.L.ItemList.items c.self.inside.items) c.self.inside.tables c.args.self.now c.self.invariant.0 c.self.view_is db r in
    c.nth_holder.ensures (keys_of (entries_of db)) (map crossref_text (entries_of db)) k.tables.named
