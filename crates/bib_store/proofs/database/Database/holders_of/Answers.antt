use Rattle.bib_store.proofs.Words.{map, entries_of, keys_of, crossref_text}
use Rattle.std.proofs.lemmas.Option.{IfSome_then}
use Rattle.bib_store.proofs.KeptItems.{kept_as}
use Rattle.bib_store.proofs.database.Database.holders_of.Goals as goal

pub returns-clause-first : goal.returns-clause-first
returns-clause-first g c = λ db r.
    let k = kept_as c.self.inside.front (g.L.ItemList.items c.self.inside.items) c.self.inside.tables c.args.self.now c.self.invariant.0 c.self.view_is db r in
    c.holders_of.ensures.first (keys_of (entries_of db)) (map crossref_text (entries_of db)) k.tables.named

pub returns-clause-count : goal.returns-clause-count
returns-clause-count g c = IfSome_then c.holders_of.result c.holders_of.ensures.count (λ held counted db r.
    let k = kept_as c.self.inside.front (g.L.ItemList.items c.self.inside.items) c.self.inside.tables c.args.self.now c.self.invariant.0 c.self.view_is db r in
    counted (keys_of (entries_of db)) (map crossref_text (entries_of db)) k.tables.named)
