use Rattle.bib_store.proofs.KeptItems.{kept_as}
use Rattle.bib_store.proofs.database.Database.first_definition.Goals as goal

pub first-requires : goal.first-requires
first-requires g c = let kept = c.self.invariant.0 in (kept.db.items, kept.is.tables.definitions)

pub returns : goal.returns
returns g c = λ db r.
    let k = kept_as c.self.inside.front (g.L.ItemList.items c.self.inside.items) c.self.inside.tables c.args.self.now c.self.invariant.0 c.self.view_is db r in
    c.first.ensures db.items k.tables.definitions
