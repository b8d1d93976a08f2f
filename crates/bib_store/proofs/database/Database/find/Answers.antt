use Rattle.bib_store.proofs.Words.{map, refl, sym, ◌∙◌, entries_of, keys_of, crossref_text}
use Rattle.bib_store.proofs.KeptItems.{kept_as}
use Rattle.bib_store.proofs.database.Database.find.Goals as goal

pub returns-in-Some-clause-found : goal.returns-in-Some-clause-found
returns-in-Some-clause-found g c = λ db r.
    let k = kept_as c.self.inside.front (g.L.ItemList.items c.self.inside.items) c.self.inside.tables c.args.self.now c.self.invariant.0 c.self.view_is db r in
    sym (c.first.ensures (keys_of (entries_of db)) (map crossref_text (entries_of db)) k.tables.named) ∙ c.in-Some.is

pub returns-in-None-clause-none : goal.returns-in-None-clause-none
returns-in-None-clause-none g c = (
  refl,
  λ db r.
      let k = kept_as c.self.inside.front (g.L.ItemList.items c.self.inside.items) c.self.inside.tables c.args.self.now c.self.invariant.0 c.self.view_is db r in
      sym (c.first.ensures (keys_of (entries_of db)) (map crossref_text (entries_of db)) k.tables.named) ∙ c.in-None.is,
)
