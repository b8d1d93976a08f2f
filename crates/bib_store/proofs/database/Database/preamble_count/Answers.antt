use Rattle.bib_store.proofs.Words.{ℕ, ◌∙◌, length, ap}
use Rattle.bib_store.proofs.KeptItems.{kept_as}
use Rattle.bib_store.proofs.EntryItems.{length-preamble_numbers}
use Rattle.bib_store.proofs.database.Database.preamble_count.Goals as goal

pub returns : goal.returns
returns g c = λ db r.
    let k = kept_as c.self.inside.front (g.L.ItemList.items c.self.inside.items) c.self.inside.tables c.args.self.now c.self.invariant.0 c.self.view_is db r in
    c.count.ensures ∙ ap (length {A = ℕ}) k.tables.preambles ∙ length-preamble_numbers db
